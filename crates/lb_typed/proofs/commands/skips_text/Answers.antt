use Rattle.std.proofs.Common.{◌≡◌, ◌≤◌, ◌∙◌, length, List, ℕ, [], ◌∷◌, ◌++◌, string_bytes, codes, subst, sym, ap, arith}
use Rattle.std.specs.Fmt.{decimal}
use Rattle.lb_step.specs.declared.command.Command.TheVariants as commands
use Rattle.lb_command.specs.Grammar.{◌▷◌, IsCommand, action, comma_list, command, covered, says, skips, term}
use Rattle.lb_command.specs.Reading.{max_line}
use Rattle.lb_command.specs.Values.{word_number}
use Rattle.lb_cache.specs.Skips.{each_once}
use Rattle.lb_typed.specs.Options.{choices_of}
use Rattle.lb_typed.specs.Pieces.{Follows, Spells}
use Rattle.lb_typed.specs.Typed.{CanBeTyped, HasTypedNames, IsTypedAction, IsTypedCovered}
use Rattle.lb_typed.specs.Words.{Types}
use Rattle.lb_typed.proofs.CommandPieces as pieces
use Rattle.lb_typed.proofs.Texts.{holds, weaker}
use Rattle.lb_typed.proofs.commands.skips_text.Goals as goal
use Rattle.lb_typed.proofs.Keywords as words

pub returns-then-is_empty : goal.returns-then-is_empty
returns-then-is_empty c =
    let listed = c.args.listed.now in
    holds string_bytes c.from_str.result (codes " skip none") (λ text. each_once listed ≡ listed → Follows (skips listed) text)
    (λ once. subst (λ (some : List ℕ). Follows (skips some) (codes " skip none")) (sym (pieces.none_are c.as_slice-codes.result.now listed c.as_slice-codes.ensures.codes c.if-is_empty.ensures)) pieces.none_skipped) c.from_str.ensures.ok

pub returns : goal.returns
returns c =
    let text = string_bytes c.in_ok-codes.codes in
    let listed = c.args.listed.now in
    let same = c.as_slice-codes.ensures.codes in
    holds string_bytes c.joined.result (codes " skip " ++ text) (λ bytes. each_once listed ≡ listed → Follows (skips listed) bytes)
    (λ once. pieces.some_skipped listed text (subst (λ (some : List ℕ). length some ≤ 16) same c.as_slice-codes.ensures.few) once (subst (λ (some : List ℕ). Spells (comma_list (says word_number) some) text) same (c.in_ok-codes.ensures (pieces.some_are c.as_slice-codes.result.now listed same (sym c.is_empty.ensures ∙ c.if-is_empty.false)))))
    (rw c.as_str.ensures.value at c.joined.ensures)

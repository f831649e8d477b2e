use Rattle.std.proofs.Common.{◌≡◌, ◌≤◌, ◌∙◌, length, List, ℕ, [], ◌∷◌, ◌++◌, string_bytes, codes, subst, sym, ap, arith}
use Rattle.std.specs.Fmt.{decimal}
use Rattle.lb_step.specs.declared.command.Command.TheVariants as commands
use Rattle.lb_command.specs.Grammar.{◌▷◌, IsCommand, action, comma_list, command, covered, says, skips, term}
use Rattle.lb_command.specs.Reading.{max_line}
use Rattle.lb_command.specs.Values.{word_number}
use Rattle.lb_cache.specs.Skips.{each_once}
use Rattle.lb_typed.specs.Options.{choices_of}
use Rattle.lb_typed.specs.Pieces.{Follows, Spells}
use Rattle.lb_typed.specs.Typed.{CanBeTyped, HasTypedNames, IsTypedAction, IsTypedCovered, IsTypedName}
use Rattle.lb_typed.specs.Words.{Types}
use Rattle.lb_typed.proofs.CommandPieces as pieces
use Rattle.lb_typed.proofs.Texts.{holds, weaker}
use Rattle.lb_typed.proofs.commands.named_text.Goals as goal
use Rattle.lb_typed.proofs.Keywords as words
use Rattle.lb_cache.specs.declared.cached.Covered.TheVariants as covereds

pub returns-in-None : goal.returns-in-None
returns-in-None c =
    let name = c.args.name.now in
    let text = string_bytes c.in_ok-name.name in
    holds string_bytes c.spaced.result (codes "name" ++ 32 ∷ text) (λ bytes. IsTypedName name → Spells (covered (covereds.Name name c.args.qtype)) bytes)
    (rw c.in-None.is (λ is. pieces.by_name name text (c.in_ok-name.ensures is))) (rw c.as_str.ensures.value at c.spaced.ensures)

pub returns : goal.returns
returns c =
    let name = c.args.name.now in
    let qtype = c.in-Some.qtype in
    let text = string_bytes c.in_ok-name.name in
    let type_text = string_bytes c.in_ok-qtype-in-Some.qtype in
    holds string_bytes c.spaced-in-Some-2.result (codes "name" ++ 32 ∷ (text ++ 32 ∷ type_text)) (λ bytes. IsTypedName name → Spells (covered (covereds.Name name c.args.qtype)) bytes)
    (rw c.in-Some.is (λ is. pieces.by_name_and_type name qtype text type_text (c.in_ok-name.ensures is) c.in_ok-qtype-in-Some.ensures))
    (rw (c.as_str-in-Some-3.ensures.value, c.in_ok-name-in-Some.ensures, c.as_str-in-Some.ensures.value, c.as_str-in-Some-2.ensures.value) at c.spaced-in-Some-2.ensures)

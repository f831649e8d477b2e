use Rattle.std.proofs.Common.{◌≡◌, ◌∙◌, List, ℕ, [], ◌∷◌, ◌++◌, string_bytes, codes, subst, sym, ap, arith}
use Rattle.std.specs.Fmt.{decimal}
use Rattle.lb_step.specs.declared.command.Command.TheVariants as commands
use Rattle.lb_command.specs.Grammar.{◌▷◌, action, comma_list, command, covered, says, skips, term}
use Rattle.lb_command.specs.Values.{word_number}
use Rattle.lb_cache.specs.Skips.{each_once}
use Rattle.lb_typed.specs.Pieces.{Follows, Spells}
use Rattle.lb_typed.specs.Typed.{CanBeTyped, HasTypedNames, IsTypedAction, IsTypedCovered}
use Rattle.lb_typed.specs.Words.{Types}
use Rattle.lb_typed.proofs.CommandPieces as pieces
use Rattle.lb_typed.proofs.Texts.{holds}
use Rattle.lb_typed.proofs.commands.rule_add.Goals as goal

pub returns-in-None : goal.returns-in-None
returns-in-None c =
    let rule = c.args.rule.now in
    holds string_bytes c.spaced.result (codes "rule add" ++ 32 ∷ string_bytes c.in_ok-text.text) (λ text. CanBeTyped (commands.RuleAdd c.args.place rule) → Spells (command (commands.RuleAdd c.args.place rule)) text)
    (rw c.in-None.is (λ can. pieces.rule_add rule (string_bytes c.in_ok-text.text) (c.in_ok-text.ensures can.0 can.1))) (rw c.as_str.ensures.value at c.spaced.ensures)

pub returns : goal.returns
returns c =
    let rule = c.args.rule.now in
    let place = c.in-Some.place in
    holds string_bytes c.spaced-in-Some-2.result ((codes "rule add at" ++ 32 ∷ decimal place) ++ 32 ∷ string_bytes c.in_ok-text.text) (λ text. CanBeTyped (commands.RuleAdd c.args.place rule) → Spells (command (commands.RuleAdd c.args.place rule)) text)
    (rw c.in-Some.is (λ can. pieces.rule_add_at place rule (string_bytes c.in_ok-text.text) c.law_of_u64.ensures (c.in_ok-text.ensures can.0 can.1))) (rw (c.as_str-in-Some-2.ensures.value, c.as_str-in-Some-3.ensures.value, c.in_ok-at-in-Some.ensures, c.as_str-in-Some.ensures.value, c.in_ok-number-in-Some.ensures) at c.spaced-in-Some-2.ensures)

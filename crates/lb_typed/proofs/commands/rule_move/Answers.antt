use Rattle.std.proofs.Common.{◌≡◌, ◌∙◌, List, ℕ, [], ◌∷◌, ◌++◌, string_bytes, codes, subst, sym, ap, arith}
use Rattle.std.specs.Fmt.{decimal}
use Rattle.lb_step.specs.declared.command.Command.TheVariants as commands
use Rattle.lb_command.specs.Grammar.{◌▷◌, action, comma_list, command, covered, says, skips, term}
use Rattle.lb_command.specs.Values.{word_number}
use Rattle.lb_cache.specs.Skips.{each_once}
use Rattle.lb_typed.specs.Pieces.{Follows, Spells}
use Rattle.lb_typed.specs.Typed.{CanBeTyped, HasTypedNames, IsTypedAction, IsTypedCovered}
use Rattle.lb_typed.specs.Words.{Types}
use Rattle.lb_typed.proofs.CommandPieces as pieces
use Rattle.lb_typed.proofs.Texts.{holds}
use Rattle.lb_typed.proofs.commands.rule_move.Goals as goal

pub returns : goal.returns
returns c = holds string_bytes c.spaced-2.result (codes "rule move" ++ 32 ∷ (decimal c.args.id.0 ++ 32 ∷ decimal c.args.place)) (λ text. Spells (command (commands.RuleMove c.args.id c.args.place)) text)
    (pieces.rule_move c.args.id c.args.place c.law_of_u64.ensures c.law_of_u64-2.ensures) (rw (c.as_str-3.ensures.value, c.in_ok-numbers.ensures, c.as_str.ensures.value, c.as_str-2.ensures.value, c.in_ok-number.ensures, c.in_ok-place.ensures) at c.spaced-2.ensures)

use Rattle.std.proofs.Common.{◌≡◌, ◌∙◌, List, ℕ, [], ◌∷◌, ◌++◌, string_bytes, codes, subst, sym, ap, arith}
use Rattle.std.specs.Fmt.{decimal}
use Rattle.lb_step.specs.declared.command.Command.TheVariants as commands
use Rattle.lb_command.specs.Grammar.{◌▷◌, action, command, term}
use Rattle.lb_typed.specs.Pieces.{Spells}
use Rattle.lb_typed.specs.Typed.{CanBeTyped, HasTypedNames, IsTypedAction}
use Rattle.lb_typed.proofs.CommandPieces as pieces
use Rattle.lb_typed.proofs.Texts.{holds}
use Rattle.lb_typed.proofs.commands.rule_remove.Goals as goal

pub returns : goal.returns
returns c = holds string_bytes c.spaced.result (codes "rule remove" ++ 32 ∷ decimal c.args.id.0) (λ text. Spells (command (commands.RuleRemove c.args.id)) text) (pieces.rule_remove c.args.id c.law_of_u64.ensures) (rw (c.as_str.ensures.value, c.in_ok-number.ensures) at c.spaced.ensures)

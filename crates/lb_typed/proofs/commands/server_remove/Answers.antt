use Rattle.std.proofs.Common.{◌≡◌, ◌∙◌, List, ℕ, [], ◌∷◌, ◌++◌, string_bytes, codes, subst, sym, ap, arith}
use Rattle.std.specs.Fmt.{decimal}
use Rattle.lb_step.specs.declared.command.Command.TheVariants as commands
use Rattle.lb_command.specs.Grammar.{◌▷◌, action, command, term}
use Rattle.lb_typed.specs.Pieces.{Spells}
use Rattle.lb_typed.specs.Typed.{CanBeTyped, HasTypedNames, IsTypedAction}
use Rattle.lb_typed.proofs.CommandPieces as pieces
use Rattle.lb_typed.proofs.Texts.{holds}
use Rattle.lb_typed.proofs.commands.server_remove.Goals as goal

pub returns : goal.returns
returns c = holds string_bytes c.spaced.result (codes "server remove" ++ 32 ∷ c.ident_word.result.now) (λ text. Spells (command (commands.ServerRemove c.args.name.now)) text) (pieces.server_remove c.args.name.now c.ident_word.result.now c.ident_word.ensures) c.spaced.ensures

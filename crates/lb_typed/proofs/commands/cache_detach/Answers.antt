use Rattle.std.proofs.Common.{◌≡◌, ◌∙◌, List, ℕ, [], ◌∷◌, ◌++◌, string_bytes, codes, subst, sym, ap, arith}
use Rattle.std.specs.Fmt.{decimal}
use Rattle.lb_step.specs.declared.command.Command.TheVariants as commands
use Rattle.lb_command.specs.Grammar.{◌▷◌, action, command, term}
use Rattle.lb_typed.specs.Pieces.{Spells}
use Rattle.lb_typed.specs.Typed.{CanBeTyped, HasTypedNames, IsTypedAction}
use Rattle.lb_typed.proofs.CommandPieces as pieces
use Rattle.lb_typed.proofs.Texts.{holds}
use Rattle.lb_typed.proofs.commands.cache_detach.Goals as goal

pub returns : goal.returns
returns c = holds string_bytes c.spaced.result (codes "cache detach" ++ 32 ∷ c.pool_word.result.now) (λ text. Spells (command (commands.CacheDetach c.args.name.now)) text) (pieces.cache_detach c.args.name.now c.pool_word.result.now c.pool_word.ensures) c.spaced.ensures

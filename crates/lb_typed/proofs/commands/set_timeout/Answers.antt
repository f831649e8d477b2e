use Rattle.std.proofs.Common.{◌≡◌, ◌∙◌, List, ℕ, [], ◌∷◌, ◌++◌, string_bytes, codes, subst, sym, ap, arith}
use Rattle.std.specs.Fmt.{decimal}
use Rattle.lb_step.specs.declared.command.Command.TheVariants as commands
use Rattle.lb_command.specs.Grammar.{◌▷◌, action, comma_list, command, covered, says, skips, term}
use Rattle.lb_command.specs.Values.{word_number}
use Rattle.lb_cache.specs.Skips.{each_once}
use Rattle.lb_typed.specs.Pieces.{Follows, Spells}
use Rattle.lb_typed.specs.Typed.{CanBeTyped, HasTypedNames, IsTypedAction, IsTypedCovered}
use Rattle.lb_typed.specs.Words.{Types}
use Rattle.lb_typed.proofs.CommandPieces as pieces
use Rattle.lb_typed.proofs.Texts.{holds}
use Rattle.lb_typed.proofs.commands.set_timeout.Goals as goal

pub returns : goal.returns
returns c = holds string_bytes c.spaced.result (codes "timeout" ++ 32 ∷ decimal c.args.timeout) (λ text. Spells (command (commands.SetTimeout c.args.timeout)) text)
    (pieces.set_timeout c.args.timeout c.law_of_timeout.ensures.least c.law_of_timeout.ensures.most) (rw (c.as_str.ensures.value, c.in_ok-millis.ensures, c.from.ensures, c.as_millis.ensures) at c.spaced.ensures)

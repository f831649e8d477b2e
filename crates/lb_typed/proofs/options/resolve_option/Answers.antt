use Rattle.lb_command.specs.Grammar.{options}
use Rattle.lb_typed.proofs.OptionPieces.{must, need_not}
use Rattle.lb_typed.proofs.options.resolve_option.Goals as goal

pub returns-then-must : goal.returns-then-must
returns-then-must c = rw c.if-must.true must

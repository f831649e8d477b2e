use Rattle.lb_command.proofs.LineExact.{one_command}
use Rattle.lb_command.proofs.laws.one_command.Goals as goal

pub returns : goal.returns
returns c = one_command

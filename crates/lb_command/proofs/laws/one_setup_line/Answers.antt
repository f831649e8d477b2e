use Rattle.lb_command.proofs.LineExact.{one_setup}
use Rattle.lb_command.proofs.laws.one_setup_line.Goals as goal

pub returns : goal.returns
returns c = one_setup

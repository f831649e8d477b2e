use Rattle.lb_command.proofs.LineExact.{one_event}
use Rattle.lb_command.proofs.laws.one_event.Goals as goal

pub returns : goal.returns
returns c = one_event

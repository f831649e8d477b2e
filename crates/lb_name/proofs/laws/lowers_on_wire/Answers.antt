use Rattle.lb_name.proofs.Names.{lower_wire}
use Rattle.lb_name.proofs.laws.lowers_on_wire.Goals as goal

pub returns : goal.returns
returns c = lower_wire

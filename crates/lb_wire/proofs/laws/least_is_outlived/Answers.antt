use Rattle.lb_wire.proofs.Outlives.{all_outlive}
use Rattle.lb_wire.proofs.laws.least_is_outlived.Goals as goal

pub returns : goal.returns
returns c = all_outlive

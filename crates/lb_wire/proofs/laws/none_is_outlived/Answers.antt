use Rattle.lb_wire.proofs.Outlives.{none_outlives}
use Rattle.lb_wire.proofs.laws.none_is_outlived.Goals as goal

pub returns : goal.returns
returns c = none_outlives

use Rattle.lb_wire.proofs.Undesired.{cleared_laid}
use Rattle.lb_wire.proofs.laws.cleared_is_laid.Goals as goal

pub returns : goal.returns
returns c = cleared_laid

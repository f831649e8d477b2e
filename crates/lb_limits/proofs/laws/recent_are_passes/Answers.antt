use Rattle.lb_limits.proofs.ArePasses.{recent_are}
use Rattle.lb_limits.proofs.laws.recent_are_passes.Goals as goal

pub returns : goal.returns
returns c = recent_are

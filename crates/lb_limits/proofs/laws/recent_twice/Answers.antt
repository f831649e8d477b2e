use Rattle.lb_limits.proofs.RecentPasses.{recent_twice}
use Rattle.lb_limits.proofs.laws.recent_twice.Goals as goal

pub returns : goal.returns
returns c = recent_twice

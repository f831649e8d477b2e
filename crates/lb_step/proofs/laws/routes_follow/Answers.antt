use Rattle.lb_step.proofs.Following.{routes_follow}
use Rattle.lb_step.proofs.laws.routes_follow.Goals as goal

pub returns : goal.returns
returns c = routes_follow c.seen_twice.ensures

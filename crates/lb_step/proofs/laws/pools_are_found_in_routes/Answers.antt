use Rattle.lb_step.proofs.Following.{named_alike, routed_at}
use Rattle.lb_step.proofs.laws.pools_are_found_in_routes.Goals as goal

pub returns : goal.returns
returns c = (named_alike, routed_at)

use Rattle.lb_limits.proofs.RecentPasses.{same_matches}
use Rattle.lb_limits.proofs.laws.reserving_keeps_matches.Goals as goal

pub returns : goal.returns
returns c = same_matches

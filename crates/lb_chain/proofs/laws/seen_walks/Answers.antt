use Rattle.lb_chain.proofs.Seen.{walks}
use Rattle.lb_chain.proofs.laws.seen_walks.Goals as goal

pub returns : goal.returns
returns c = walks c.recent_twice.ensures

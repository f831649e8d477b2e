use Rattle.lb_chain.proofs.Seen.{twice}
use Rattle.lb_chain.proofs.laws.seen_twice.Goals as goal

pub returns : goal.returns
returns c = twice c.recent_twice.ensures

use Rattle.lb_chain.proofs.Listings.{seen_own}
use Rattle.lb_chain.proofs.laws.seen_have_own_limiters.Goals as goal

pub returns : goal.returns
returns c = seen_own

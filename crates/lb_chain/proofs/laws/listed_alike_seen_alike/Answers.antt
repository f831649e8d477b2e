use Rattle.lb_chain.proofs.Listings.{listed_alike}
use Rattle.lb_chain.proofs.laws.listed_alike_seen_alike.Goals as goal

pub returns : goal.returns
returns c = listed_alike

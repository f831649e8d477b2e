use Rattle.std.proofs.Common.{◌≡◌, length, take}
use Rattle.lb_chain.specs.Offers.{AreOffers, terms_of}
use Rattle.lb_chain.specs.Filing.{AreEven}
use Rattle.lb_chain.proofs.offers.Offers.of.Given as goal

abbrev pub invariant-loop-at : goal.invariant-loop-at
invariant-loop-at l = AreOffers l.offers (terms_of (take l.at l.rules)) × AreEven l.offers.ranks.items × (l.at ≡ length l.offers.ranks.items)

use Rattle.std.proofs.Common.{◌≡◌, Some, slice_get, rules, subst, sym}
use Rattle.lb_chain.specs.Ahead.{IsLeastBehind, IsOffered}
use Rattle.lb_index_ranks.specs.Least.{lesser_of}
use Rattle.lb_chain.proofs.Ahead.{both_least, here_least}
use Rattle.lb_chain.proofs.offers.Offers.next_rank.Goals as goal

pub returns-then-eq-clause-found : goal.returns-then-eq-clause-found
returns-then-eq-clause-found c = λ terms filed is.
    let self = c.args.self.now in
    let ahead = c.args.ahead.now in
    let first : c.copied-loose.result ≡ Some c.args.here = search rules in
    let head : slice_get ahead.loose.now 0 ≡ Some c.args.here = search rules in
    subst (IsLeastBehind (IsOffered self.names self.masks self.loose c.args.view.now c.args.addr.now) self.ranks.items ahead.at) (sym first)
    (here_least c.suffix_test_decides.ensures c.mask_test_decides.ensures self.names self.masks self.loose terms self.ranks.items c.args.view.now c.args.addr.now filed ahead.at c.args.here ahead.loose.now c.requires.at c.requires.here is.left head)

pub returns-clause-found : goal.returns-clause-found
returns-clause-found c = λ terms filed is.
    let self = c.args.self.now in
    let ahead = c.args.ahead.now in
    let same : c.lesser.result ≡ lesser_of (slice_get ahead.loose.now 0) c.indexed_rank.result = search rules in
    subst (IsLeastBehind (IsOffered self.names self.masks self.loose c.args.view.now c.args.addr.now) self.ranks.items ahead.at) (sym same)
    (both_least self.names self.masks self.loose self.ranks.items ahead.loose.now c.args.view.now c.args.addr.now ahead.at c.indexed_rank.result is.left (c.indexed_rank.ensures.found terms filed is))

use Rattle.std.proofs.Common.{◌≡◌, ◌<◌, ℕ, length, slice_index, Option, List, Some, rules, subst, sym}
use Rattle.lb_chain.specs.FirstAsked.{AreRising}
use Rattle.lb_chain.specs.Ahead.{IsLeastBehind, IsOffered}
use Rattle.lb_chain.specs.Offers.{IsNextOffered}
use Rattle.lb_chain.proofs.Ahead.{ahead_passed, next_none, next_some, own_place}
use Rattle.lb_chain.proofs.offers.Offers.next.Goals as goal

pub returns-in_err-rank-clause-next : goal.returns-in_err-rank-clause-next
returns-in_err-rank-clause-next c = λ terms filed is.
    let self = c.args.self.now in
    let ahead = c.args.ahead.now in
    let within : ahead.at < length self.ranks.items = search rules in
    subst (λ (o : Option ℕ). IsNextOffered terms c.args.view.now c.args.addr.now ahead.at o) (sym c.from_residual-in_err-rank.ensures)
    (next_none c.suffix_test_decides.ensures c.mask_test_decides.ensures self.names self.masks self.loose terms self.ranks.items c.args.view.now c.args.addr.now filed ahead.at within ((c.in_err-rank.ensures {u = tt}).found terms filed is))

pub returns-clause-next : goal.returns-clause-next
returns-clause-next c = λ terms filed is.
    let self = c.args.self.now in
    let ahead = c.args.ahead.now in
    let rank = c.in_ok-rank.rank in
    let place = c.place_from-place.result in
    let finds = subst (λ (xs : List ℕ). AreRising xs → (k : ℕ) → k < length xs → slice_index xs k ≡ rank → place ≡ k) c.as_slice-2.ensures.value c.place_from-place.ensures.place in
    let least = (c.in_ok-rank.ensures {u = tt}).found terms filed is in
    let own = own_place c.suffix_test_decides.ensures c.mask_test_decides.ensures self.names self.masks self.loose terms self.ranks.items c.args.view.now c.args.addr.now filed ahead.at rank place least finds in
    next_some c.suffix_test_decides.ensures c.mask_test_decides.ensures self.names self.masks self.loose terms self.ranks.items c.args.view.now c.args.addr.now filed ahead.at rank place own.0 own.1 least

pub returns-clause-ahead : goal.returns-clause-ahead
returns-clause-ahead c = λ terms filed is.
    let self = c.args.self.now in
    let ahead = c.args.ahead.now in
    let rank = c.in_ok-rank.rank in
    let place = c.place_from-place.result in
    let finds = subst (λ (xs : List ℕ). AreRising xs → (k : ℕ) → k < length xs → slice_index xs k ≡ rank → place ≡ k) c.as_slice-2.ensures.value c.place_from-place.ensures.place in
    let told = c.in_ok-rank.ensures {u = tt} in
    let at = told.at in
    let least = subst (λ (k : ℕ). IsLeastBehind (IsOffered self.names self.masks self.loose c.args.view.now c.args.addr.now) self.ranks.items k (Some rank)) (sym at) (told.found terms filed is) in
    let own = own_place c.suffix_test_decides.ensures c.mask_test_decides.ensures self.names self.masks self.loose terms self.ranks.items c.args.view.now c.args.addr.now filed c.next_rank.new.ahead.at rank place least finds in
    ahead_passed c.suffix_test_decides.ensures c.mask_test_decides.ensures self.names self.masks self.loose terms self.ranks.items c.args.view.now c.args.addr.now rank place c.next_rank.new.ahead c.pass.new.self filed own.0 own.1 least (told.ahead terms filed is)
    c.pass.ensures.at c.pass.ensures.left c.pass.ensures.looked c.pass.ensures.indexed

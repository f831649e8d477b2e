use Rattle.std.proofs.Common.{◌++◌, ◌∙◌, ◌≡◌, List, None, Option, Some, ap, rules, slice_get, subst, sym, ℕ, true}
use Rattle.lb_index_ranks.specs.declared.filed.Filed.{Filed}
use Rattle.lb_index_ranks.specs.Block.{back_in, front_in}
use Rattle.lb_index_ranks.specs.Chunk.{all_of}
use Rattle.lb_index_ranks.specs.Filed.{filed_at, AreInOrder, IsFiledAt}
use Rattle.lb_index_ranks.specs.Least.{IsLeastFrom}
use Rattle.lb_index_ranks.proofs.Cuts.{next_here, next_none, next_other}
use Rattle.lb_index_ranks.proofs.InPlace.{cut_in, order_in, whole_in}
use Rattle.lb_index_ranks.proofs.ranks.Ranks.next_joined.Goals as goal

pub returns-in_err-filed : goal.returns-in_err-filed
returns-in_err-filed c =
    let key = (c.args.head.now ++ c.args.tail.now) in
    let from = c.args.from in
    let at = filed_at key from in
    let all = c.args.self.now in
    let order : AreInOrder all = subst AreInOrder c.self.view_is c.self.invariant.0 in
    let back : back_in c.joined-at.result (all_of c.as_slice.result.now) ≡ back_in at all = ap (λ (f : Filed). back_in f (all_of c.as_slice.result.now)) c.joined-at.ensures ∙ ap (back_in at) (ap all_of c.as_slice.ensures.value ∙ c.self.view_is) in
    let none : slice_get (back_in c.joined-at.result (all_of c.as_slice.result.now)) 0 ≡ None = search rules in
    subst (λ (found : Option ℕ). IsLeastFrom (IsFiledAt all key) from found) (sym c.from_residual.ensures)
    (subst (λ (xs : List Filed). IsLeastFrom (IsFiledAt xs key) from None) (whole_in at all)
    (next_none key from (front_in at all) (back_in at all) (cut_in at all order) (ap (λ (xs : List Filed). slice_get xs 0) (sym back) ∙ none)))

pub returns-then-has_key : goal.returns-then-has_key
returns-then-has_key c =
    let key = (c.args.head.now ++ c.args.tail.now) in
    let from = c.args.from in
    let at = filed_at key from in
    let all = c.args.self.now in
    let order : AreInOrder all = subst AreInOrder c.self.view_is c.self.invariant.0 in
    let back : back_in c.joined-at.result (all_of c.as_slice.result.now) ≡ back_in at all = ap (λ (f : Filed). back_in f (all_of c.as_slice.result.now)) c.joined-at.ensures ∙ ap (back_in at) (ap all_of c.as_slice.ensures.value ∙ c.self.view_is) in
    let first : slice_get (back_in c.joined-at.result (all_of c.as_slice.result.now)) 0 ≡ Some c.in_ok-filed.filed.now = search rules in
    subst (λ (rank : ℕ). IsLeastFrom (IsFiledAt all key) from (Some rank)) (sym c.rank.ensures)
    (subst (λ (xs : List Filed). IsLeastFrom (IsFiledAt xs key) from (Some c.in_ok-filed.filed.now.rank)) (whole_in at all)
    (next_here key from (front_in at all) (back_in at all) c.in_ok-filed.filed.now (order_in at all order) (cut_in at all order) (ap (λ (xs : List Filed). slice_get xs 0) (sym back) ∙ first)
    (c.has_key.ensures.0 (search rules) ∙ ap (λ (f : Filed). f.key) c.joined-at.ensures)))

pub returns-else-has_key : goal.returns-else-has_key
returns-else-has_key c =
    let key = (c.args.head.now ++ c.args.tail.now) in
    let from = c.args.from in
    let at = filed_at key from in
    let all = c.args.self.now in
    let order : AreInOrder all = subst AreInOrder c.self.view_is c.self.invariant.0 in
    let back : back_in c.joined-at.result (all_of c.as_slice.result.now) ≡ back_in at all = ap (λ (f : Filed). back_in f (all_of c.as_slice.result.now)) c.joined-at.ensures ∙ ap (back_in at) (ap all_of c.as_slice.ensures.value ∙ c.self.view_is) in
    let first : slice_get (back_in c.joined-at.result (all_of c.as_slice.result.now)) 0 ≡ Some c.in_ok-filed.filed.now = search rules in
    subst (λ (xs : List Filed). IsLeastFrom (IsFiledAt xs key) from None) (whole_in at all)
    (next_other key from (front_in at all) (back_in at all) c.in_ok-filed.filed.now (order_in at all order) (cut_in at all order) (ap (λ (xs : List Filed). slice_get xs 0) (sym back) ∙ first)
    (λ same. let yes : c.has_key.result ≡ true = c.has_key.ensures.1 (same ∙ ap (λ (f : Filed). f.key) (sym c.joined-at.ensures)) in cc (yes, c.if-has_key.false)))

use Rattle.std.proofs.Common.{◌≡◌, ◌++◌, List, ℕ, ap, sym, ◌∙◌, Ordering, Equal}
use Rattle.std.specs.Cmp.Lexicographic.{slice_cmp}
use Rattle.std.specs.Ordering.{nat_cmp, ordering_then}
use Rattle.lb_index_ranks.specs.declared.filed.Filed.{Filed}
use Rattle.lb_index_ranks.specs.Front.{front_cmp, key_from}
use Rattle.lb_index_ranks.proofs.Packing.{packed_order, then_other}
use Rattle.lb_index_ranks.proofs.key.Key.order.Goals as goal

pub returns-in-Equal : goal.returns-in-Equal
returns-in-Equal c =
    let own = c.self.inside in
    let other = c.at.inside in
    let key : key_from other.front (other.rest.now ++ other.more.now) ≡ c.args.at.now.key = ap (λ (f : Filed). f.key) c.at.view_is in
    let fronts : front_cmp own.front other.front ≡ Equal = sym c.order.ensures ∙ c.in-Equal.is in
    c.order_to.ensures ∙ ap (λ (xs : List ℕ). slice_cmp nat_cmp xs (other.rest.now ++ other.more.now)) c.as_slice.ensures.value
    ∙ ap (λ (o : Ordering). ordering_then o (slice_cmp nat_cmp own.rest.items (other.rest.now ++ other.more.now))) (sym fronts)
    ∙ sym (packed_order own.front other.front own.rest.items (other.rest.now ++ other.more.now) c.self.invariant c.at.invariant)
    ∙ ap (λ (xs : List ℕ). slice_cmp nat_cmp xs (key_from other.front (other.rest.now ++ other.more.now))) c.self.view_is ∙ ap (λ (xs : List ℕ). slice_cmp nat_cmp c.args.self.now xs) key

pub returns-in_default : goal.returns-in_default
returns-in_default c =
    let own = c.self.inside in
    let other = c.at.inside in
    let key : key_from other.front (other.rest.now ++ other.more.now) ≡ c.args.at.now.key = ap (λ (f : Filed). f.key) c.at.view_is in
    c.order.ensures
    ∙ sym (then_other (front_cmp own.front other.front) (slice_cmp nat_cmp own.rest.items (other.rest.now ++ other.more.now)) (λ same. c.in_default.not-Equal (c.order.ensures ∙ same)))
    ∙ sym (packed_order own.front other.front own.rest.items (other.rest.now ++ other.more.now) c.self.invariant c.at.invariant)
    ∙ ap (λ (xs : List ℕ). slice_cmp nat_cmp xs (key_from other.front (other.rest.now ++ other.more.now))) c.self.view_is ∙ ap (λ (xs : List ℕ). slice_cmp nat_cmp c.args.self.now xs) key

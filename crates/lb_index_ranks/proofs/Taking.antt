-- The first pair of a back that is taken out.
use Rattle.std.proofs.Common.{◌≡◌, ℕ, true, false, List, [], ◌∷◌, ◌++◌, Option, None, Some, drop, slice_get, inl, inr, subst, sym}
use Rattle.std.specs.declared.cmp.Ordering.TheVariants.{Less}
use Rattle.std.proofs.lemmas.List.Elements.{Contains-append_right}
use Rattle.lb_index_ranks.specs.declared.filed.Filed.{Filed}
use Rattle.lb_index_ranks.specs.Block.{back_in, front_in, IsUnfiledIn, TakesBelow}
use Rattle.lb_index_ranks.specs.Filed.{filed_at, filed_cmp, is_before, AreInOrder, HasBut, IsCut, TakesFirst}
use Rattle.lb_index_ranks.proofs.Cuts.{absent, in_back, none_within, take_has, take_none, take_order}
use Rattle.lb_index_ranks.proofs.InPlace.{cut_in, order_in, whole_in}
use Rattle.lb_index_ranks.proofs.Order.{cons_cases, cons_here, each_has, lower, not_own, order_back, order_head}

less_order : (front back : List Filed) → AreInOrder (front ++ back) → AreInOrder (front ++ drop 1 back)
less_order front [] order = order
less_order front (b ∷ back) order = take_order b front back order

order_by : (at : Filed) (front back new : List Filed) → AreInOrder (front ++ back) → IsUnfiledIn at front back new → AreInOrder new
order_by at front back new order unfiled = elim unfiled [ inl here ↦ subst AreInOrder (sym here.1) (less_order front back order) | inr other ↦ subst AreInOrder (sym other.1) order ]

first_but : (at : Filed) (front back : List Filed) → AreInOrder (front ++ back) → slice_get back 0 ≡ Some at → HasBut (front ++ back) at (front ++ drop 1 back)
first_but at front [] order is = absurd (cc is)
first_but at front (b ∷ back) order is =
    let same : b ≡ at = cc is in
    subst (λ (f : Filed). HasBut (front ++ b ∷ back) f (front ++ back)) same (take_has b front back order)

but_by : (at : Filed) (front back new : List Filed) → AreInOrder (front ++ back) → IsCut at front back → IsUnfiledIn at front back new → HasBut (front ++ back) at new
but_by at front back new order cut unfiled =
    elim unfiled [
      | inl here ↦ subst (λ (xs : List Filed). HasBut (front ++ back) at xs) (sym here.1) (first_but at front back order here.0)
      | inr other ↦ subst (λ (xs : List Filed). HasBut (front ++ back) at xs) (sym other.1) (take_none (front ++ back) at (absent at front back order cut other.0))
    ]

-- pairs stay in order where one is taken out
pub unfiled_order : (at : Filed) (items new : List Filed) → AreInOrder items → IsUnfiledIn at (front_in at items) (back_in at items) new → AreInOrder new
unfiled_order at items new order unfiled = order_by at (front_in at items) (back_in at items) new (order_in at items order) unfiled

-- and that one is not there any more
pub unfiled_but : (at : Filed) (items new : List Filed) → AreInOrder items → IsUnfiledIn at (front_in at items) (back_in at items) new → HasBut items at new
unfiled_but at items new order unfiled =
    subst (λ (xs : List Filed). HasBut xs at new) (whole_in at items) (but_by at (front_in at items) (back_in at items) new (order_in at items order) (cut_in at items order) unfiled)

below_by : (high : Filed) (front back : List Filed) (found : Option ℕ) (new : List Filed) → AreInOrder (front ++ back) → TakesBelow high front back found new → AreInOrder new
below_by high front back None new order took = subst AreInOrder (sym took.1) order
below_by high front back (Some rank) new order took = subst AreInOrder (sym took.2) (less_order front back order)

-- nor do they lose it where the first is taken out
pub below_order : (low high : Filed) (items : List Filed) (found : Option ℕ) (new : List Filed) → AreInOrder items → TakesBelow high (front_in low items) (back_in low items) found new → AreInOrder new
below_order low high items found new order took = below_by high (front_in low items) (back_in low items) found new (order_in low items order) took

some_is : {X : Type 0} (x y : X) → Some x ≡ Some y → x ≡ y
some_is x y is = cc is

first_by : (low high : List ℕ) (front back : List Filed) (found : Option ℕ) (new : List Filed) → AreInOrder (front ++ back) → IsCut (filed_at low 0) front back → TakesBelow (filed_at high 0) front back found new → TakesFirst low high (front ++ back) found new
first_by low high front back None new order cut took = (none_within low high front back order cut took.0, took.1)
first_by low high front [] (Some rank) new order cut took = absurd (cc took.0)
first_by low high front (x ∷ rest) (Some rank) new order cut took = (
  x,
  record {
    has = Contains-append_right front (x ∷ rest) x (cons_here x rest);
    from = cut.after.0;
    below = some_is (is_before (filed_at high 0) x) true took.0;
    first = λ f has not_low.
        elim (cons_cases x rest f (in_back (filed_at low 0) front (x ∷ rest) f cut has not_low)) [
          | inl same ↦ subst (λ (g : Filed). is_before x g ≡ false) same (not_own x)
          | inr later ↦ lower x x f (each_has (λ (g : Filed). filed_cmp x g ≡ Less) rest f (order_head x rest (order_back front (x ∷ rest) order)) later) (not_own x)
        ];
  },
  some_is rank x.rank (sym took.1),
  subst (λ (xs : List Filed). HasBut (front ++ x ∷ rest) x xs) (sym took.2) (take_has x front rest order),
)

pub takes_first : (low high : List ℕ) (items : List Filed) (found : Option ℕ) (new : List Filed) → AreInOrder items → TakesBelow (filed_at high 0) (front_in (filed_at low 0) items) (back_in (filed_at low 0) items) found new → TakesFirst low high items found new
takes_first low high items found new order took =
    let at : Filed = filed_at low 0 in
    subst (λ (xs : List Filed). TakesFirst low high xs found new) (whole_in at items)
    (first_by low high (front_in at items) (back_in at items) found new (order_in at items order) (cut_in at items order) took)

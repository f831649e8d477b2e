-- Pairs in order.
use Rattle.std.proofs.Common.{◌≡◌, ◌⊎◌, true, false, ℕ, zero, suc, ◌<◌, ◌≤◌, List, [], ◌∷◌, ◌++◌, length, get_or, Contains, inl, inr, refl, sym, ap, subst, ◌∙◌, arith}
use Rattle.std.specs.List.{AllByRecursion}
use Rattle.std.specs.List.Sorted.{IsPartitionedBy, IsStrictlySortedBy}
use Rattle.std.specs.Ordering.{nat_cmp, ordering_then, ordering_reverse, is_lt}
use Rattle.std.specs.Cmp.{IsTotalOrder}
use Rattle.std.specs.Cmp.Lexicographic.{slice_cmp}
use Rattle.std.specs.declared.cmp.Ordering.{Ordering}
use Rattle.std.specs.declared.cmp.Ordering.TheVariants.{Less, Equal, Greater}
use Rattle.std.proofs.lemmas.Cmp.{on_total, then_total, nat_list_cmp_total, nat_cmp_total, tied_itself, ranked}
use Rattle.std.proofs.lemmas.Map.Lookups.{exact_bytes}
use Rattle.std.proofs.lemmas.Map.Keys.{sorted_head, sorted_tail}
use Rattle.lb_index_ranks.specs.declared.filed.Filed.{Filed}
use Rattle.lb_index_ranks.specs.Filed.{filed_cmp, filed_at, is_before, AreInOrder}

pub lt_or_same : (i j : ℕ) → i ≤ j → (i < j) ⊎ (i ≡ j)
lt_or_same i j le = grind arith

pub filed_total : IsTotalOrder filed_cmp
filed_total = then_total (on_total (λ (f : Filed). f.key) nat_list_cmp_total) (on_total (λ (f : Filed). f.rank) nat_cmp_total)

pub less_is : (o : Ordering) → is_lt o ≡ true → o ≡ Less
less_is Less is = refl
less_is Equal is = absurd (cc)
less_is Greater is = absurd (cc)

-- equal in the order is equal
same_rank : (r s : ℕ) → nat_cmp r s ≡ Equal → r ≡ s
same_rank r s is = ranked r s Equal (sym is)

tied_by : (a b : List ℕ) (r s : ℕ) (o : Ordering) → o ≡ slice_cmp nat_cmp a b → ordering_then o (nat_cmp r s) ≡ Equal → (a ≡ b) × (r ≡ s)
tied_by a b r s Less e is = absurd (cc)
tied_by a b r s Equal e is = (exact_bytes a b (sym e), same_rank r s is)
tied_by a b r s Greater e is = absurd (cc)

pub tied_is : (x y : Filed) → filed_cmp x y ≡ Equal → x ≡ y
tied_is x y is =
    let both = tied_by x.key y.key x.rank y.rank (slice_cmp nat_cmp x.key y.key) refl is in
    ap (λ (k : List ℕ). filed_at k x.rank) both.0 ∙ ap (λ (r : ℕ). filed_at y.key r) both.1

pub differ : (x y : Filed) → filed_cmp x y ≡ Less → x ≡ y → ⊥
differ x y less same =
    let own : filed_cmp x y ≡ Equal = ap (λ (z : Filed). filed_cmp x z) (sym same) ∙ tied_itself filed_total x in
    absurd (cc (less, own))

after_by : (x y : Filed) (o : Ordering) → o ≡ filed_cmp x y → is_lt o ≡ false → (x ≡ y → ⊥) → filed_cmp y x ≡ Less
after_by x y Less e is other = absurd (cc)
after_by x y Equal e is other = absurd (other (tied_is x y (sym e)))
after_by x y Greater e is other = filed_total.antisymm y x ∙ ap ordering_reverse (sym e)

-- a pair that does not stand before another, and is another one, stands after it
pub after_is : (x y : Filed) → is_before y x ≡ false → (x ≡ y → ⊥) → filed_cmp y x ≡ Less
after_is x y is other = after_by x y (filed_cmp x y) refl is other

lower_by : (at x y : Filed) (o : Ordering) → o ≡ filed_cmp y at → filed_cmp x y ≡ Less → is_before at x ≡ false → is_lt o ≡ false
lower_by at x y Less e less is =
    let under : is_before at x ≡ true = ap is_lt (filed_total.trans x y at less (sym e)) in
    absurd (cc (under, is))
lower_by at x y Equal e less is = refl
lower_by at x y Greater e less is = refl

-- a pair after one that does not stand before this one does not either
pub lower : (at x y : Filed) → filed_cmp x y ≡ Less → is_before at x ≡ false → is_before at y ≡ false
lower at x y less is = lower_by at x y (filed_cmp y at) refl less is

-- a pair before one that stands before this one does too
pub upper : (at x y : Filed) → filed_cmp x y ≡ Less → is_before at y ≡ true → is_before at x ≡ true
upper at x y less is = ap is_lt (filed_total.trans x y at less (less_is (filed_cmp y at) is))

pub not_own : (at : Filed) → is_before at at ≡ false
not_own at = ap is_lt (tied_itself filed_total at)

-- facts of each
pub each_append : {X : Type 0} (P : X → Type 0) (xs ys : List X) → AllByRecursion P xs → AllByRecursion P ys → AllByRecursion P (xs ++ ys)
each_append P [] ys a b = b
each_append P (x ∷ xs) ys a b = (a.0, each_append P xs ys a.1 b)

pub each_front : {X : Type 0} (P : X → Type 0) (xs ys : List X) → AllByRecursion P (xs ++ ys) → AllByRecursion P xs
each_front P [] ys a = tt
each_front P (x ∷ xs) ys a = (a.0, each_front P xs ys a.1)

pub each_back : {X : Type 0} (P : X → Type 0) (xs ys : List X) → AllByRecursion P (xs ++ ys) → AllByRecursion P ys
each_back P [] ys a = a
each_back P (x ∷ xs) ys a = each_back P xs ys a.1

pub each_weaker : {X : Type 0} (P Q : X → Type 0) (xs : List X) → ((x : X) → P x → Q x) → AllByRecursion P xs → AllByRecursion Q xs
each_weaker P Q [] to a = tt
each_weaker P Q (x ∷ xs) to a = (to x a.0, each_weaker P Q xs to a.1)

pub each_at : {X : Type 0} (P : X → Type 0) (xs : List X) → AllByRecursion P xs → (k : ℕ) (d : X) → k < length xs → P (get_or xs k d)
each_at P [] each k d lt = absurd (omega (arith, lt))
each_at P (x ∷ xs) each zero d lt = each.0
each_at P (x ∷ xs) each (suc k) d lt = each_at P xs each.1 k d (omega (arith, lt))

cons_by : {X : Type 0} (x : X) (xs : List X) (y : X) (k : ℕ) → k < length (x ∷ xs) → get_or (x ∷ xs) k y ≡ y → (x ≡ y) ⊎ Contains xs y
cons_by x xs y zero lt is = inl is
cons_by x xs y (suc k) lt is = inr (k, omega (arith, lt), is)

-- one of a list is its first or one of the others
pub cons_cases : {X : Type 0} (x : X) (xs : List X) (y : X) → Contains (x ∷ xs) y → (x ≡ y) ⊎ Contains xs y
cons_cases x xs y has = cons_by x xs y has.0 has.1 has.2

pub cons_there : {X : Type 0} (x : X) (xs : List X) (y : X) → Contains xs y → Contains (x ∷ xs) y
cons_there x xs y has = (suc has.0, omega (arith, has.1), has.2)

pub cons_here : {X : Type 0} (x : X) (xs : List X) → Contains (x ∷ xs) x
cons_here x xs = (0, omega arith, refl)

pub none_there : {X : Type 0} (y : X) → Contains [] y → ⊥
none_there y has = let lt : has.0 < 0 = has.1 in absurd (omega (arith, lt))

pub each_has : {X : Type 0} (P : X → Type 0) (xs : List X) (y : X) → AllByRecursion P xs → Contains xs y → P y
each_has P [] y each has = absurd (none_there y has)
each_has P (x ∷ xs) y each has = elim (cons_cases x xs y has) [ inl same ↦ subst P same each.0 | inr there ↦ each_has P xs y each.1 there ]

-- lists of which each pair of the first stands before each of the second
abbrev pub Apart : List Filed → List Filed → Type 0
Apart xs ys = AllByRecursion (λ x. AllByRecursion (λ y. filed_cmp x y ≡ Less) ys) xs

pub order_cons : (x : Filed) (xs : List Filed) → AllByRecursion (λ y. filed_cmp x y ≡ Less) xs → AreInOrder xs → AreInOrder (x ∷ xs)
unfolding IsStrictlySortedBy
order_cons x xs each order = (each, order)

pub order_none : AreInOrder []
unfolding IsStrictlySortedBy
order_none = tt

pub order_head : (x : Filed) (xs : List Filed) → AreInOrder (x ∷ xs) → AllByRecursion (λ y. filed_cmp x y ≡ Less) xs
order_head x xs order = sorted_head filed_cmp x xs order

pub order_tail : (x : Filed) (xs : List Filed) → AreInOrder (x ∷ xs) → AreInOrder xs
order_tail x xs order = sorted_tail filed_cmp x xs order

pub order_front : (xs ys : List Filed) → AreInOrder (xs ++ ys) → AreInOrder xs
order_front [] ys order = order_none
order_front (x ∷ xs) ys order = order_cons x xs (each_front (λ y. filed_cmp x y ≡ Less) xs ys (order_head x (xs ++ ys) order)) (order_front xs ys (order_tail x (xs ++ ys) order))

pub order_back : (xs ys : List Filed) → AreInOrder (xs ++ ys) → AreInOrder ys
order_back [] ys order = order
order_back (x ∷ xs) ys order = order_back xs ys (order_tail x (xs ++ ys) order)

pub order_apart : (xs ys : List Filed) → AreInOrder (xs ++ ys) → Apart xs ys
order_apart [] ys order = tt
order_apart (x ∷ xs) ys order = (each_back (λ y. filed_cmp x y ≡ Less) xs ys (order_head x (xs ++ ys) order), order_apart xs ys (order_tail x (xs ++ ys) order))

pub order_append : (xs ys : List Filed) → AreInOrder xs → AreInOrder ys → Apart xs ys → AreInOrder (xs ++ ys)
order_append [] ys a b apart = b
order_append (x ∷ xs) ys a b apart = order_cons x (xs ++ ys) (each_append (λ y. filed_cmp x y ≡ Less) xs ys (order_head x xs a) apart.0) (order_append xs ys (order_tail x xs a) b apart.1)

-- each pair stands before those after it
pub below_at : (xs : List Filed) → AreInOrder xs → (i j : ℕ) (d : Filed) → i < j → j < length xs → filed_cmp (get_or xs i d) (get_or xs j d) ≡ Less
below_at [] order i j d lt in_list = absurd (omega (arith, in_list))
below_at (x ∷ xs) order zero zero d lt in_list = absurd (omega (arith, lt))
below_at (x ∷ xs) order zero (suc j) d lt in_list = each_at (λ y. filed_cmp x y ≡ Less) xs (order_head x xs order) j d (omega (arith, in_list))
below_at (x ∷ xs) order (suc i) zero d lt in_list = absurd (omega (arith, lt))
below_at (x ∷ xs) order (suc i) (suc j) d lt in_list = below_at xs (order_tail x xs order) i j d (omega (arith, lt)) (omega (arith, in_list))

-- those before a pair stand before the others
pub parted : (at : Filed) (xs : List Filed) → AreInOrder xs → IsPartitionedBy (is_before at) xs
parted at xs order i j d le lt is =
    elim (lt_or_same i j le) [
      | inl less ↦ upper at (get_or xs i d) (get_or xs j d) (below_at xs order i j d less lt) is
      | inr same ↦ ap (λ (k : ℕ). is_before at (get_or xs k d)) same ∙ is
    ]

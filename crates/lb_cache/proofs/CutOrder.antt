-- Pairs in order of which some are cut out.
use Rattle.std.proofs.Common.{◌≡◌, List, [], ◌∷◌, ◌++◌, Contains, inl, inr, sym, ap, subst, ◌∙◌}
use Rattle.std.specs.List.{AllByRecursion}
use Rattle.std.specs.List.Sorted.{IsStrictlySortedBy}
use Rattle.std.specs.Cmp.{IsTotalOrder}
use Rattle.std.specs.declared.cmp.Ordering.TheVariants.{Less, Equal}
use Rattle.std.proofs.lemmas.Cmp.{on_total, then_total, nat_list_cmp_total, nat_cmp_total, tied_itself}
use Rattle.lb_index_ranks.specs.declared.filed.Filed.{Filed}
use Rattle.lb_index_ranks.specs.Filed.{filed_cmp, AreInOrder, IsCutOut}
use Rattle.lb_cache.proofs.Members.{cons_cases, none_there, order_head, order_tail}

filed_total : IsTotalOrder filed_cmp
filed_total = then_total (on_total (λ (f : Filed). f.key) nat_list_cmp_total) (on_total (λ (f : Filed). f.rank) nat_cmp_total)

-- a pair that stands before another is another one
pub differ : (x y : Filed) → filed_cmp x y ≡ Less → x ≡ y → ⊥
differ x y less same =
    let own : filed_cmp x y ≡ Equal = ap (λ (z : Filed). filed_cmp x z) (sym same) ∙ tied_itself filed_total x in
    absurd (cc (less, own))

pub each_front : {X : Type 0} (P : X → Type 0) (xs ys : List X) → AllByRecursion P (xs ++ ys) → AllByRecursion P xs
each_front P [] ys a = tt
each_front P (x ∷ xs) ys a = (a.0, each_front P xs ys a.1)

pub each_back : {X : Type 0} (P : X → Type 0) (xs ys : List X) → AllByRecursion P (xs ++ ys) → AllByRecursion P ys
each_back P [] ys a = a
each_back P (x ∷ xs) ys a = each_back P xs ys a.1

each_append : {X : Type 0} (P : X → Type 0) (xs ys : List X) → AllByRecursion P xs → AllByRecursion P ys → AllByRecursion P (xs ++ ys)
each_append P [] ys a b = b
each_append P (x ∷ xs) ys a b = (a.0, each_append P xs ys a.1 b)

pub each_has : {X : Type 0} (P : X → Type 0) (xs : List X) (y : X) → AllByRecursion P xs → Contains xs y → P y
each_has P [] y each has = absurd (none_there y has)
each_has P (x ∷ xs) y each has = elim (cons_cases x xs y has) [ inl same ↦ subst P same each.0 | inr there ↦ each_has P xs y each.1 there ]

-- each pair of the first list stands before each of the second
abbrev Apart : List Filed → List Filed → Type 0
Apart xs ys = AllByRecursion (λ x. AllByRecursion (λ y. filed_cmp x y ≡ Less) ys) xs

order_none : AreInOrder []
unfolding IsStrictlySortedBy
order_none = tt

order_cons : (x : Filed) (xs : List Filed) → AllByRecursion (λ y. filed_cmp x y ≡ Less) xs → AreInOrder xs → AreInOrder (x ∷ xs)
unfolding IsStrictlySortedBy
order_cons x xs each order = (each, order)

order_front : (xs ys : List Filed) → AreInOrder (xs ++ ys) → AreInOrder xs
order_front [] ys order = order_none
order_front (x ∷ xs) ys order = order_cons x xs (each_front (λ y. filed_cmp x y ≡ Less) xs ys (order_head x (xs ++ ys) order)) (order_front xs ys (order_tail x (xs ++ ys) order))

order_back : (xs ys : List Filed) → AreInOrder (xs ++ ys) → AreInOrder ys
order_back [] ys order = order
order_back (x ∷ xs) ys order = order_back xs ys (order_tail x (xs ++ ys) order)

order_apart : (xs ys : List Filed) → AreInOrder (xs ++ ys) → Apart xs ys
order_apart [] ys order = tt
order_apart (x ∷ xs) ys order = (each_back (λ y. filed_cmp x y ≡ Less) xs ys (order_head x (xs ++ ys) order), order_apart xs ys (order_tail x (xs ++ ys) order))

order_append : (xs ys : List Filed) → AreInOrder xs → AreInOrder ys → Apart xs ys → AreInOrder (xs ++ ys)
order_append [] ys a b apart = b
order_append (x ∷ xs) ys a b apart = order_cons x (xs ++ ys) (each_append (λ y. filed_cmp x y ≡ Less) xs ys (order_head x xs a) apart.0) (order_append xs ys (order_tail x xs a) b apart.1)

apart_back : (xs ys zs : List Filed) → Apart xs (ys ++ zs) → Apart xs zs
apart_back [] ys zs apart = tt
apart_back (x ∷ xs) ys zs apart = (each_back (λ (y : Filed). filed_cmp x y ≡ Less) ys zs apart.0, apart_back xs ys zs apart.1)

-- what is left of pairs in order is in order
pub left_order : (low high : Filed) (items cut new : List Filed) → AreInOrder items → IsCutOut low high items cut new → AreInOrder new
left_order low high items cut new order out =
    let all : AreInOrder (out.front ++ (cut ++ out.back)) = subst AreInOrder out.whole order in
    subst AreInOrder (sym out.left)
    (order_append out.front out.back (order_front out.front (cut ++ out.back) all) (order_back cut out.back (order_back out.front (cut ++ out.back) all))
    (apart_back out.front cut out.back (order_apart out.front (cut ++ out.back) all)))

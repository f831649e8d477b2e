-- What a list has, and pairs in order.
use Rattle.std.proofs.Common.{◌≡◌, ◌⊎◌, ℕ, zero, suc, ◌<◌, List, [], ◌∷◌, length, get_or, Contains, inl, inr, refl, arith}
use Rattle.std.specs.List.{AllByRecursion}
use Rattle.std.specs.declared.cmp.Ordering.TheVariants.{Less}
use Rattle.std.proofs.lemmas.Map.Keys.{sorted_head, sorted_tail}
use Rattle.lb_index_ranks.specs.declared.filed.Filed.{Filed}
use Rattle.lb_index_ranks.specs.Filed.{filed_cmp, AreInOrder}

cons_by : {X : Type 0} (x : X) (xs : List X) (y : X) (k : ℕ) → k < length (x ∷ xs) → get_or (x ∷ xs) k y ≡ y → (x ≡ y) ⊎ Contains xs y
cons_by x xs y zero lt is = inl is
cons_by x xs y (suc k) lt is = inr (k, omega (arith, lt), is)

-- one of a list is its first or one of the others
pub cons_cases : {X : Type 0} (x : X) (xs : List X) (y : X) → Contains (x ∷ xs) y → (x ≡ y) ⊎ Contains xs y
cons_cases x xs y has = cons_by x xs y has.0 has.1 has.2

pub cons_there : {X : Type 0} (x : X) (xs : List X) (y : X) → Contains xs y → Contains (x ∷ xs) y
cons_there x xs y has = (suc has.0, omega (arith, has.1), has.2)

pub cons_here : {X : Type 0} (x : X) (xs : List X) → Contains (x ∷ xs) x
cons_here x xs = (0, omega arith, refl)

pub none_there : {X : Type 0} (y : X) → Contains [] y → ⊥
none_there y has = let lt : has.0 < 0 = has.1 in absurd (omega (arith, lt))

-- of pairs in order the first stands before the others, and these are in order
pub order_head : (x : Filed) (xs : List Filed) → AreInOrder (x ∷ xs) → AllByRecursion (λ y. filed_cmp x y ≡ Less) xs
order_head x xs order = sorted_head filed_cmp x xs order

pub order_tail : (x : Filed) (xs : List Filed) → AreInOrder (x ∷ xs) → AreInOrder xs
order_tail x xs order = sorted_tail filed_cmp x xs order

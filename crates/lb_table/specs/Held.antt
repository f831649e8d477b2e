-- Queries in order, each in a slot of its own.
use Rattle.std.specs.Prelude.{◌≡◌, ℕ, ◌+◌, ◌-◌, Bool, true, ◌==◌, cond, List, [], ◌∷◌, map, Option, None, Some, IsSome}
use Rattle.std.specs.List.{AllByRecursion}
use Rattle.lb_index_slots.specs.Slots.{get}
use Rattle.lb_index_ring.specs.Ring.{Distinct, Lacks, has, is_slot}
use Rattle.lb_table.specs.declared.entry.Waiting.{Waiting}

abbrev pub slot_of : ℕ × Waiting → ℕ
slot_of x = x.0

abbrev pub query_of : ℕ × Waiting → Waiting
query_of x = x.1

-- the queries of a line, and their slots
abbrev pub queries : List (ℕ × Waiting) → List Waiting
queries line = map query_of line

abbrev pub slots : List (ℕ × Waiting) → List ℕ
slots line = map slot_of line

-- whether a query stands in a slot
abbrev pub in_slot : ℕ → ℕ × Waiting → Bool
in_slot slot x = x.0 == slot

-- a list without the first that passes
abbrev pub without_first : {X : Type 0} → (X → Bool) → List X → List X
without_first p [] = []
without_first p (x ∷ xs) = cond (p x) xs (x ∷ without_first p xs)

-- a line with a query more, after the one in a slot, or in front where that is 0
abbrev pub after_slot : ℕ → ℕ × Waiting → List (ℕ × Waiting) → List (ℕ × Waiting)
after_slot prev x [] = []
after_slot prev x (y ∷ ys) = cond (is_slot prev y.0) (y ∷ x ∷ ys) (y ∷ after_slot prev x ys)

abbrev pub behind : ℕ → ℕ × Waiting → List (ℕ × Waiting) → List (ℕ × Waiting)
behind prev x line = cond (prev == 0) (x ∷ line) (after_slot prev x line)

-- the queries in the order of their slots; slot n is the store's n - 1, as 0 is none
abbrev pub with_slot : ℕ → Option Waiting → List (ℕ × Waiting) → List (ℕ × Waiting)
with_slot slot None rest = rest
with_slot slot (Some w) rest = (slot, w) ∷ rest

abbrev pub line_of : List (List (Option Waiting)) → List ℕ → List (ℕ × Waiting)
line_of items [] = []
line_of items (s ∷ ss) = with_slot s (get items (s - 1)) (line_of items ss)

-- each slot in order has a query, and each query a slot in order
pub record IsHeld (items : List (List (Option Waiting))) (ring : List ℕ) : Type 0 where
  pub full : AllByRecursion (λ s. IsSome (get items (s - 1))) ring
  pub from_one : Lacks 0 ring
  pub apart : Distinct ring
  pub each : (k : ℕ) → IsSome (get items k) → has (k + 1) ring ≡ true

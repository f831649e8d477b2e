-- The queries that wait, by deadline, each in a slot of its own, and the last slot of each deadline.
use Rattle.std.specs.Prelude.{◌≡◌, ℕ, Bool, false, ◌==◌, cond, List, [], ◌∷◌, Option, None, Some, option_map}
use Rattle.std.specs.List.{insert}
use Rattle.std.specs.Option.{option_or}
use Rattle.std.specs.Ordering.{nat_cmp}
use Rattle.std.specs.BTreeMap.{BTreeMap, get}
use Rattle.lb_index_ring.specs.Ring.{Distinct, Lacks}
use Rattle.lb_table.specs.declared.entry.Waiting.{Waiting}
use Rattle.lb_table.specs.Entry.{deadline_of}
use Rattle.lb_table.specs.Held.{behind, queries, slot_of, slots}
use Rattle.lb_table.specs.Table.{ByDeadline, place_by_deadline}

-- the line with a query more, after those of its deadline
abbrev pub stood : List (ℕ × Waiting) → ℕ → Waiting → List (ℕ × Waiting)
stood line slot w = insert line (place_by_deadline (deadline_of w.entry) (queries line)) (slot, w)

-- whether a query has this deadline
abbrev pub is_of : ℕ → ℕ × Waiting → Bool
is_of deadline x = deadline_of x.1.entry == deadline

-- the last of a list that passes
abbrev pub last_of : {X : Type 0} → (X → Bool) → List X → Option X
last_of p [] = None
last_of p (x ∷ xs) = option_or (last_of p xs) (cond (p x) (Some x) None)

-- whether there is a slot, and it is this one
abbrev pub is_the : ℕ → Option ℕ → Bool
is_the slot None = false
is_the slot (Some k) = k == slot

-- what the line keeps true: the index of deadlines finds of each the slot that a search of the line from its end finds
pub record IsLine (lasts : BTreeMap ℕ ℕ) (line : List (ℕ × Waiting)) : Type 0 where
  pub index : (deadline : ℕ) → get nat_cmp lasts deadline ≡ option_map slot_of (last_of (is_of deadline) line)
  pub order : ByDeadline (queries line)

-- the slot after which a query of this deadline goes, in each line whose last slots these are, so
-- that it comes after those of its deadline; 0, which is the slot of no query, if it goes first
abbrev pub IsSlotAhead : BTreeMap ℕ ℕ → ℕ → ℕ → Type 0
IsSlotAhead lasts deadline ahead = (line : List (ℕ × Waiting)) → IsLine lasts line → Distinct (slots line) → Lacks 0 (slots line) → (slot : ℕ) (w : Waiting) → deadline_of w.entry ≡ deadline → behind ahead (slot, w) line ≡ stood line slot w

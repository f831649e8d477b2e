-- What finds the queries that wait by their places, and counts them.
use Rattle.std.specs.Prelude.{◌≡◌, ⊤, ℕ, Bool, false, List, [], ◌∷◌, None, option_map}
use Rattle.std.specs.List.{AllByRecursion, count_by, find}
use Rattle.lb_wire.specs.declared.ids.ServerId.{ServerId}
use Rattle.lb_table.specs.declared.entry.Waiting.{Waiting}
use Rattle.lb_table.specs.declared.index.Index.{Index}
use Rattle.lb_table.specs.declared.place.Place.{Place}
use Rattle.lb_table.specs.Counts.{count_of}
use Rattle.lb_table.specs.Held.{in_slot, queries, slot_of}
use Rattle.lb_table.specs.Lanes.{slot_at}
use Rattle.lb_table.specs.Line.{stood}
use Rattle.lb_table.specs.Table.{ByDeadline, is_at, is_for}

-- whether a query of a line waits at a place
abbrev pub stands_at : Place → ℕ × Waiting → Bool
stands_at place x = is_at place x.1

-- no two have a slot or a place in common
abbrev pub Apart : List (ℕ × Waiting) → Type 0
Apart [] = ⊤
Apart (x ∷ rest) = AllByRecursion (λ o. (in_slot x.0 o ≡ false) × (stands_at x.1.place o ≡ false)) rest × Apart rest

-- the index finds at each place the slot that a search of the line finds there, and has for each server the number that a
-- count of the line gives
pub record Tells (index : Index) (line : List (ℕ × Waiting)) : Type 0 where
  pub places : (place : Place) → slot_at index.lanes place ≡ option_map slot_of (find (stands_at place) line)
  pub counts : (server : ServerId) → count_of index.counts server.0 ≡ count_by (is_for server) (queries line)

-- if the index was that of a line, it is now that of the line with one query more, which waits in
-- this slot at a place at which none waited
abbrev pub TellsOfOneMore : Index → Place → ℕ → Index → Type 0
TellsOfOneMore old place slot new = (line : List (ℕ × Waiting)) (w : Waiting) → Tells old line → w.place ≡ place → find (stands_at place) line ≡ None → Tells new (stood line slot w)

-- what the table keeps true of its line and its index
pub record IsTable (line : List (ℕ × Waiting)) (indexes : Index) : Type 0 where
  pub index : Tells indexes line
  pub apart : Apart line
  pub order : ByDeadline (queries line)

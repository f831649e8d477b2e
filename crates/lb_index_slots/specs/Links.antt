-- The links through the empty slots, each to the slot that was emptied before it.
use Rattle.std.specs.Prelude.{◌≡◌, ◌==◌, ◌≤◌, ℕ, zero, suc, ◌/◌, ◌%◌, ◌^◌, cond}
use Rattle.std.specs.Prelude.{List, [], ◌∷◌, ◌++◌, Option, None, Some}
use Rattle.std.specs.Prelude.{length, map, slice_index_or, slice_set}
use Rattle.lb_index_slots.specs.declared.chunk.Cell.{Cell}
use Rattle.lb_index_slots.specs.declared.chunk.Cell.TheVariants.{Free, Full}
use Rattle.lb_index_slots.specs.Slots.{value_in}

-- the links without that of one slot
abbrev pub but : (ℕ → Option ℕ) → ℕ → ℕ → Option ℕ
but links slot other = cond (other == slot) None (links other)

-- there are so many links: the first in this slot, and each further one in the slot to which the
-- one before leads
abbrev pub Leads : ℕ → (ℕ → Option ℕ) → ℕ → Type 0
Leads zero links free = (slot : ℕ) → links slot ≡ None
Leads (suc count) links free =
    (next : ℕ) × (links free ≡ Some next) × Leads count (but links free) next

module _ {T : Type 0} where
  -- the chunks as a caller sees them: each slot with its value, or with none
  abbrev pub values : List (List (Cell T)) → List (List (Option T))
  values chunks = map (map value_in) chunks

  -- the cells of one of the chunks
  abbrev pub cells_at : List (List (Cell T)) → ℕ → List (Cell T)
  cells_at chunks at = slice_index_or chunks at []

  -- the link of a cell, if it has one: a cell has a value or a link
  abbrev pub link_in : Cell T → Option ℕ
  link_in (Free next) = Some next
  link_in (Full _) = None

  -- the link in a place of a chunk
  abbrev pub link_at : List (Cell T) → ℕ → Option ℕ
  link_at cells at = slice_index_or (map link_in cells) at None

  -- the link in a slot
  abbrev pub links : List (List (Cell T)) → ℕ → Option ℕ
  links chunks slot = link_at (cells_at chunks (slot / 32)) (slot % 32)

  -- the chunks with another cell in a slot
  abbrev pub with_cell : List (List (Cell T)) → ℕ → Cell T → List (List (Cell T))
  with_cell chunks slot cell =
      slice_set chunks (slot / 32) (slice_set (cells_at chunks (slot / 32)) (slot % 32) cell)

  -- the slot was at the end of its chunk and has this cell now; each other chunk has what it had
  pub record Adds (old new : List (List (Cell T))) (slot : ℕ) (cell : Cell T) : Type 0 where
    pub end : slot % 32 ≡ length (cells_at old (slot / 32))
    pub cells : (at : ℕ)
        → cells_at new at
        ≡ cond (at == slot / 32) (cells_at old (slot / 32) ++ cell ∷ []) (cells_at old at)

  -- there are few enough chunks that each slot has a number, and the links lead from this slot to
  -- every empty one
  pub record AreSlots (chunks : List (List (Cell T))) (free : ℕ) : Type 0 where
    pub few : length chunks ≤ 2 ^ 57
    pub linked : (count : ℕ) × Leads count (links chunks) free

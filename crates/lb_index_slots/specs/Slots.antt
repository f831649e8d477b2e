-- Values in numbered slots, chunk by chunk.
use Rattle.std.specs.Prelude.{◌≡◌, ◌≢◌, ◌<◌, ℕ, ◌/◌, ◌%◌, length, slice_index_or}
use Rattle.std.specs.Prelude.{List, [], Option, None, Some}
use Rattle.lb_index_slots.specs.declared.chunk.Cell.{Cell}
use Rattle.lb_index_slots.specs.declared.chunk.Cell.TheVariants.{Free, Full}

module _ {T : Type 0} where
  -- the value of a cell, if it has one
  abbrev pub value_in : Cell T → Option T
  value_in (Free _) = None
  value_in (Full value) = Some value

  -- the value in a place of a chunk
  abbrev pub value_at : List (Option T) → ℕ → Option T
  value_at chunk at = slice_index_or chunk at None

  -- one of the chunks
  abbrev pub chunk_at : List (List (Option T)) → ℕ → List (Option T)
  chunk_at chunks at = slice_index_or chunks at []

  -- the value in a slot; a chunk has 32 slots
  abbrev pub get : List (List (Option T)) → ℕ → Option T
  get chunks slot = value_at (chunk_at chunks (slot / 32)) (slot % 32)

  -- the slot has this now, and each other one what it had
  pub record Updates (old new : List (List (Option T))) (slot : ℕ) (value : Option T) : Type 0 where
    pub changed : get new slot ≡ value
    pub others : (other : ℕ) → other ≢ slot → get new other ≡ get old other

  -- a slot below the end of its chunk that has no value
  pub record IsEmpty (chunks : List (List (Option T))) (slot : ℕ) : Type 0 where
    pub below : slot % 32 < length (chunk_at chunks (slot / 32))
    pub none : get chunks slot ≡ None

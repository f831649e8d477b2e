-- The query IDs that are taken on a lane.
use Rattle.std.specs.Prelude.{◌≡◌, ℕ, ◌+◌, ◌/◌, ◌%◌, ◌^◌, ◌<◌, Bool, true, false, ◌==◌, List, Option, None, Some, slice_index_or}
use Rattle.std.specs.Int.{bit_at}

-- whether an ID is taken: its bit in its word of 64
abbrev pub has_id : List ℕ → ℕ → Bool
has_id words id = bit_at (slice_index_or words (id / 64) 0) (id % 64) == 1

-- whether each ID is taken; if that is not so, one is not
abbrev pub TellsFull : (ℕ → Bool) → Bool → Type 0
TellsFull taken true = (id : ℕ) → id < 2 ^ 16 → taken id ≡ true
TellsFull taken false = (id : ℕ) × (id < 2 ^ 16) × (taken id ≡ false)

-- the first ID at or after a word, 65,535 being followed by 0, that is not taken; None where each is
abbrev pub FirstOf : (ℕ → Bool) → ℕ → Option ℕ → Type 0
FirstOf taken word None = (id : ℕ) → id < 2 ^ 16 → taken id ≡ true
FirstOf taken word (Some id) = (taken id ≡ false) × (k : ℕ) × (k < 2 ^ 16) × (id ≡ (word + k) % 2 ^ 16) × ((j : ℕ) → j < k → taken ((word + j) % 2 ^ 16) ≡ true)

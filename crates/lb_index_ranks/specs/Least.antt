-- The least of some ranks.
use Rattle.std.specs.Prelude.{ℕ, ◌≤◌, nat_lt, Option, Some, None, if◌then◌else◌}

-- the least rank at or after a rank of those of which this holds, and none where there is none
abbrev pub IsLeastFrom : (ℕ → Type 0) → ℕ → Option ℕ → Type 0
IsLeastFrom P from (Some rank) = (from ≤ rank) × P rank × ((r : ℕ) → from ≤ r → P r → rank ≤ r)
IsLeastFrom P from None = (r : ℕ) → from ≤ r → P r → ⊥

-- the lesser of two ranks, where there are two
abbrev pub lesser_of : Option ℕ → Option ℕ → Option ℕ
lesser_of None b = b
lesser_of (Some a) None = Some a
lesser_of (Some a) (Some b) = if nat_lt b a then Some b else Some a

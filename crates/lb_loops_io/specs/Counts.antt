-- Counts of failures, and lists that grow.
use Rattle.std.specs.Prelude.{◌≡◌, ℕ, ◌+◌, ◌-◌, ◌<◌, ◌≤◌, ◌^◌, ◌⊎◌, List, ◌++◌, length}

-- a count rose, or stands at its last number
abbrev pub Rose : ℕ → ℕ → Type 0
Rose before after = (before < after) ⊎ (2 ^ 64 - 1 ≤ after)

-- a failure more, or several
abbrev pub Fails : ℕ → ℕ → Type 0
Fails before after = (before ≤ after) × Rose before after

-- a list grew by at most as many as these; where it grew by as many, it grew by these
abbrev pub Grows : {A : Type 0} → List A → List A → List A → Type 0
Grows old new these = (length new ≤ length old + length these) × (length new ≡ length old + length these → new ≡ old ++ these)

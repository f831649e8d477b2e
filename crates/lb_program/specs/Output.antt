-- What is written out.
use Rattle.std.specs.Prelude.{◌≡◌, ℕ, List, ◌++◌, Option}
use Rattle.std.specs.Io.KnownBytes.{Appends}

-- an output grew by a front of these bytes, and the rest is still to be written
abbrev pub Writes : Option (List ℕ) → Option (List ℕ) → List ℕ → List ℕ → Type 0
Writes old new bytes rest = (front : List ℕ) × (bytes ≡ front ++ rest) × Appends old new front

-- an output grew by a front of these bytes
abbrev pub WritesFront : Option (List ℕ) → Option (List ℕ) → List ℕ → Type 0
WritesFront old new bytes = (rest : List ℕ) × Writes old new bytes rest

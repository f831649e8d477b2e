-- Pieces of a line, which say a part of the grammar wherever in a line they are.
use Rattle.std.specs.Prelude.{◌≡◌, ℕ, false, List, ◌++◌}
use Rattle.lb_command.specs.Line.{begins_word, left_of}
use Rattle.lb_command.specs.Grammar.{Part}

-- a piece that says a part, if no byte of a word comes after it
abbrev pub Spells : Part → List ℕ → Type 0
Spells part piece = (total : ℕ) (rest : List ℕ) → begins_word rest ≡ false → part (left_of total (piece ++ rest)) (left_of total rest)

-- the same of a piece that begins with no byte of a word, or is empty
abbrev pub Follows : Part → List ℕ → Type 0
Follows part piece =
    (total : ℕ) (rest : List ℕ) → begins_word rest ≡ false → (begins_word (piece ++ rest) ≡ false) × part (left_of total (piece ++ rest)) (left_of total rest)

-- What reading shows of a line.
use Rattle.std.specs.Prelude.{◌≡◌, ℕ, ◌+◌, ◌<◌, List, [], ◌∷◌, ◌++◌, length, take, drop, Option, Some, IfSome, Result, IfOk, Bool, false, ◌==◌, ⊤}
use Rattle.std.specs.List.{All}
use Rattle.lb_program.specs.declared.faults.Stop.{Stop}
use Rattle.lb_program.specs.declared.faults.Stop.TheVariants as stops
use Rattle.lb_program.specs.declared.shown.Shown.{Shown}
use Rattle.lb_program.specs.declared.shown.Shown.TheVariants.{Piece, LineFeed, End}

-- the byte is a line feed
abbrev pub is_line_feed : ℕ → Bool
is_line_feed byte = byte == 10

-- the first line feed of these bytes stands at this place
abbrev pub FirstFeedAt : List ℕ → ℕ → Type 0
FirstFeedAt bytes place = (place < length bytes) × (bytes ≡ take place bytes ++ 10 ∷ drop (place + 1) bytes) × All (λ byte. is_line_feed byte ≡ false) (take place bytes)

-- of the bytes that remained a piece without a line feed went to the line, and the rest remains: all, or what stands
-- after a line feed, or nothing
abbrev pub Takes : List ℕ → List ℕ → Shown → List ℕ → Option (List ℕ) → Type 0
Takes old bytes Piece new left = (piece : List ℕ) × (rest : List ℕ) × (left ≡ Some rest) × (new ≡ old ++ piece) × (bytes ≡ piece ++ rest) × All (λ byte. is_line_feed byte ≡ false) piece
Takes old bytes LineFeed new left = (piece : List ℕ) × (rest : List ℕ) × (left ≡ Some rest) × (new ≡ old ++ piece) × (bytes ≡ piece ++ 10 ∷ rest) × All (λ byte. is_line_feed byte ≡ false) piece
Takes old bytes End new left = (left ≡ Some []) × (new ≡ old) × (bytes ≡ [])

-- if the bytes that remained are known, and reading them showed something of a line, then this went to the line so
abbrev pub TakesFrom : Option (List ℕ) → List ℕ → Result Shown Stop → List ℕ → Option (List ℕ) → Type 0
TakesFrom remained old result new left = IfSome remained (λ bytes. IfOk result (λ shown. Takes old bytes shown new left))

-- reading stops by a failure of the input, where no byte of it was at hand, or for lack of memory
abbrev pub IsOfReading : List ℕ → Stop → Type 0
IsOfReading at_hand (stops.Input error) = at_hand ≡ []
IsOfReading at_hand stops.NoMemory = ⊤
IsOfReading at_hand _ = ⊥

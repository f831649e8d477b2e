-- The lines of an input, what those that are told read as, and what is left of them within a line.
use Rattle.std.specs.Prelude.{◌≡◌, ◌⊎◌, ℕ, ◌+◌, Bool, true, false, if◌then◌else◌, List, [], ◌∷◌, ◌++◌, ◌-◌, ◌^◌, Option, Some, None, IfSome, Result, Ok, Err, ⊤}
use Rattle.std.specs.List.{slice_split}
use Rattle.std.specs.Str.{is_utf8}
use Rattle.std.specs.Str.Lines.{lines, strip_carriage_return}
use Rattle.lb_step.specs.declared.event.Event as core
use Rattle.lb_command.specs.Events.{event_of}
use Rattle.lb_command.specs.Reading.{max_line}
use Rattle.lb_command.specs.declared.fault.CommandFault.{CommandFault}
use Rattle.lb_command.specs.declared.fault.FaultKind.TheVariants as kinds
use Rattle.lb_program.specs.Shown.{is_line_feed}
use Rattle.lb_program.specs.Line.{kind_of, kind_with, is_told_kind, IsSound}
use Rattle.lb_program.specs.declared.faults.Stop.{Stop}
use Rattle.lb_program.specs.declared.faults.Stop.TheVariants.{BadLine, Refused, NotUtf8, Input, Output, CountFull, NoMemory}
use Rattle.lb_program.specs.declared.line.LineKind.{LineKind}
use Rattle.lb_program.specs.declared.line.LineKind.TheVariants.{Blank}
use Rattle.lb_program.specs.declared.line.Line.{Line}
use Rattle.lb_program.specs.declared.input.Turn.{Turn}
use Rattle.lb_program.specs.declared.input.Turn.TheVariants.{Nothing, Event, End}

-- what a line reads as: the event or the fault that its text reads as, and None where its bytes are no text in UTF-8
abbrev pub Reading : Type 0
Reading = Option (Result core.Event CommandFault)

-- whether a line is told: it is neither blank nor a comment
abbrev pub is_told : List ℕ → Bool
is_told line = is_told_kind (kind_of line)

-- lines with their numbers, from this one on
abbrev pub numbered : ℕ → List (List ℕ) → List (ℕ × List ℕ)
numbered n [] = []
numbered n (line ∷ others) = (n, line) ∷ numbered (n + 1) others

-- what a line with a number reads as, before others: a line that is no text reads as that, told or not, and of the others those that
-- are told
abbrev pub read_before : ℕ → List ℕ → List (ℕ × Reading) → List (ℕ × Reading)
read_before n line others = if is_utf8 line then (if is_told line then (n, Some (event_of line)) ∷ others else others) else (n, None) ∷ others

-- what these lines read as, each with its number
abbrev pub told_of : ℕ → List (List ℕ) → List (ℕ × Reading)
told_of n [] = []
told_of n (line ∷ others) = read_before n line (told_of (n + 1) others)

-- what the lines of an input read as that are told or are no text, each with its number, counted from 1: a line feed ends a line, and a
-- carriage return before it is no part of the line
abbrev pub readings : List ℕ → List (ℕ × Reading)
readings bytes = told_of 1 (lines bytes)

-- what a line that is too long reads as
abbrev pub too_long : Result core.Event CommandFault
too_long = Err (record { place = max_line; kind = kinds.Extra })

-- what a line reads as of which these bytes are held: all of them, or the end of a line that is too long, whose front was text
abbrev pub reading_of : Bool → List ℕ → Result core.Event CommandFault
reading_of true bytes = too_long
reading_of false bytes = event_of bytes

-- the same of a line that is told or is no text, with its number
abbrev pub told_read : ℕ → LineKind → Bool → List ℕ → List (ℕ × Reading)
told_read n kind long bytes = if is_utf8 bytes then (if is_told_kind (kind_with kind bytes) then (n, Some (reading_of long bytes)) ∷ [] else []) else (n, None) ∷ []

-- the same of these parts between line feeds, where of the first one a front was of this kind, and is perhaps no longer held
abbrev pub told_from : ℕ → LineKind → Bool → List (List ℕ) → List (ℕ × Reading)
told_from n kind long [] = []
told_from n kind long (x ∷ []) = told_read n kind long x
told_from n kind long (x ∷ y ∷ more) = told_read n kind long (strip_carriage_return x) ++ told_from (n + 1) Blank false (y ∷ more)

-- what is left to read, after so many lines: of the line in hand and of the bytes that remain
abbrev pub left_of : ℕ → Line → List ℕ → List (ℕ × Reading)
left_of ended line rest = told_from (ended + 1) line.kind line.is_long (slice_split is_line_feed (line.bytes.items ++ rest))

-- what a turn gives, of the line with a number
abbrev pub gives : ℕ → Turn → List (ℕ × Reading)
gives n Nothing = []
gives n (Event event) = (n, Some (Ok event)) ∷ []
gives n End = []

-- the input goes on after a turn
abbrev pub IsGoing : Turn → Type 0
IsGoing Nothing = ⊤
IsGoing (Event event) = ⊤
IsGoing End = ⊥

-- a fault is what a line reads as, unless memory was lacking
abbrev pub IsFaultOf : Result core.Event CommandFault → CommandFault → Type 0
IsFaultOf reading fault = (fault.kind ≡ kinds.NoMemory) ⊎ (reading ≡ Err fault)

-- a stop comes before these readings: a line that does not read, or is no text, is the first of them, and has this number
abbrev pub StopsAt : Stop → List (ℕ × Reading) → Type 0
StopsAt (BadLine number fault) left = (reading : Result core.Event CommandFault) × (more : List (ℕ × Reading)) × (left ≡ (number, Some reading) ∷ more) × IsFaultOf reading fault
StopsAt (NotUtf8 number) left = (more : List (ℕ × Reading)) × (left ≡ (number, None) ∷ more)
StopsAt (Refused number fault) left = ⊥
StopsAt (Input error) left = ⊤
StopsAt (Output error) left = ⊤
StopsAt (CountFull full) left = ⊤
StopsAt NoMemory left = ⊤

-- the line with a number is judged: what a turn gives of it, or why it stops
abbrev pub Judges : ℕ → List (ℕ × Reading) → Result Turn Stop → Type 0
Judges n told (Ok turn) = (told ≡ gives n turn) × IsGoing turn
Judges n told (Err (BadLine number fault)) = (reading : Result core.Event CommandFault) × (told ≡ (number, Some reading) ∷ []) × IsFaultOf reading fault
Judges n told (Err (NotUtf8 number)) = told ≡ (number, None) ∷ []
Judges n told (Err (Refused number fault)) = ⊥
Judges n told (Err (Input error)) = ⊥
Judges n told (Err (Output error)) = ⊥
Judges n told (Err (CountFull full)) = ⊥
Judges n told (Err NoMemory) = ⊥

-- why a turn stops: by a line; where it read from the input, of which no byte was at hand, by a failure of that; or where so many turns
-- were taken that no more can be counted; or for lack of memory
abbrev pub MayStop : ℕ → List ℕ → Stop → Type 0
MayStop turns at_hand (BadLine number fault) = ⊤
MayStop turns at_hand (NotUtf8 number) = ⊤
MayStop turns at_hand (Refused number fault) = ⊥
MayStop turns at_hand (Input error) = at_hand ≡ []
MayStop turns at_hand (Output error) = ⊥
MayStop turns at_hand (CountFull full) = turns ≡ 2 ^ 64 - 1
MayStop turns at_hand NoMemory = ⊤

-- after so many lines, from a line in hand and the bytes that remain, a turn gives what it gives, and the rest is left after
-- so many lines; at the end nothing is left
abbrev pub TurnsTo : ℕ → Line → List ℕ → Turn → ℕ → Line → Option (List ℕ) → Type 0
TurnsTo ended old bytes End new_ended new left = left_of ended old bytes ≡ []
TurnsTo ended old bytes turn new_ended new left = (rest : List ℕ) × (left ≡ Some rest) × IsSound new × (left_of ended old bytes ≡ gives (ended + 1) turn ++ left_of new_ended new rest)

-- the same of a turn that may stop: a stop comes before what is left to read
abbrev pub Turns : ℕ → Line → List ℕ → Result Turn Stop → ℕ → Line → Option (List ℕ) → Type 0
Turns ended old bytes (Ok turn) new_ended new left = TurnsTo ended old bytes turn new_ended new left
Turns ended old bytes (Err stop) new_ended new left = StopsAt stop (left_of ended old bytes)

-- the same, if the line in hand is sound, and it is known which bytes remain
abbrev pub TurnsFrom : Option (List ℕ) → ℕ → Line → Result Turn Stop → ℕ → Line → Option (List ℕ) → Type 0
TurnsFrom remained ended old result new_ended new left = IsSound old → IfSome remained (λ bytes. Turns ended old bytes result new_ended new left)

-- What a setup file states, line by line.
use Rattle.std.specs.Prelude.{if◌then◌else◌, ◌≡◌, ◌⊎◌, ℕ, ◌+◌, Bool, true, false, ◌&&◌, nat_le, length, List, [], ◌∷◌, ◌++◌, ⊤, Option, Some, None, IsSomeAnd, Result, Ok, Err}
use Rattle.std.specs.Str.Lines.{lines}
use Rattle.lb_step.specs.declared.answer.Answer.{Answer}
use Rattle.lb_step.specs.declared.answer.Answer.TheVariants as answers
use Rattle.lb_step.specs.declared.answer.EditFault.{EditFault}
use Rattle.lb_step.specs.declared.command.Command.{Command}
use Rattle.lb_step.specs.declared.event.Event.TheVariants as events
use Rattle.lb_step.specs.Plain.{Plain, empty}
use Rattle.lb_step.specs.Step.{Answers}
use Rattle.lb_command.specs.Line.{spaces_of}
use Rattle.lb_command.specs.Reading.{max_line}
use Rattle.lb_command.specs.Setup.{begins_listen, setup_of}
use Rattle.lb_command.specs.declared.fault.CommandFault.{CommandFault}
use Rattle.lb_command.specs.declared.fault.FaultKind.TheVariants as kinds
use Rattle.lb_command.specs.declared.setup.Listener.{Listener}
use Rattle.lb_command.specs.declared.setup.SetupLine.{SetupLine}
use Rattle.lb_command.specs.declared.setup.SetupLine.TheVariants as setups
use Rattle.lb_program.specs.Faults.{End}
use Rattle.lb_program.specs.Input.{is_told}
use Rattle.lb_program.specs.declared.faults.Stop.{Stop}
use Rattle.lb_program.specs.declared.faults.Stop.TheVariants.{BadLine, Refused, NotUtf8, Input, Output, CountFull, NoMemory}

-- what a setup file states beside the balancer: the listeners in the order of their lines, and how many calls the log holds
pub record Stated : Type 0 where
  pub listeners : List Listener
  pub log : ℕ

-- where no line states anything: 1,000 calls
abbrev pub nothing_stated : Stated
nothing_stated = record { listeners = []; log = 1000 }

-- a line with its number before others, where it is told
abbrev pub told_before : ℕ → List ℕ → List (ℕ × List ℕ) → List (ℕ × List ℕ)
told_before n line others = if is_told line then (n, line) ∷ others else others

-- the told ones of lines, with their numbers from this one on
abbrev pub told_from_number : ℕ → List (List ℕ) → List (ℕ × List ℕ)
told_from_number n [] = []
told_from_number n (line ∷ others) = told_before n line (told_from_number (n + 1) others)

-- the told lines of a text, counted from 1
abbrev pub told_lines : List ℕ → List (ℕ × List ℕ)
told_lines text = told_from_number 1 (lines text)

-- how reading a setup file ends: with what it states and the balancer, or early
abbrev pub SetupEnd : Type 0
SetupEnd = Result (Stated × Plain) Stop

-- a line at fault stops the reading so that this holds; it may stop for lack of memory anywhere, and for nothing else
abbrev pub StopsBy : Stop → (SetupEnd → Type 0) → Type 0
StopsBy (BadLine number fault) Holds = Holds (Err (BadLine number fault))
StopsBy (Refused number fault) Holds = Holds (Err (Refused number fault))
StopsBy (NotUtf8 number) Holds = ⊥
StopsBy (Input error) Holds = ⊥
StopsBy (Output error) Holds = ⊥
StopsBy (CountFull full) Holds = ⊥
StopsBy NoMemory Holds = ⊤

-- the same of how lines ended that left this
abbrev pub EndsWith : End → (SetupEnd → Type 0) → Stated → Plain → Type 0
EndsWith (Ok done) Holds stated balancer = Holds (Ok (stated, balancer))
EndsWith (Err stop) Holds stated balancer = StopsBy stop Holds

-- a ninth line that listens is too much, at its first word
abbrev pub ninth_listener : List ℕ → CommandFault
ninth_listener line = record { place = spaces_of line; kind = kinds.Extra }

-- one of two ways
abbrev pub ByTest : Bool → Type 0 → Type 0 → Type 0
ByTest true one other = one
ByTest false one other = other

-- a line begins as one that listens, after eight of them; a line that is too long is not looked into
abbrev pub is_ninth : ℕ → List ℕ → Bool
is_ninth listeners line = nat_le 8 listeners && nat_le (length line) max_line && begins_listen line

-- why an edit was refused, where it was
abbrev pub refusal_of : Answer → Option EditFault
refusal_of (answers.Refused fault) = Some fault
refusal_of _ = None

-- an edit at the moment 0 is refused, and the reading ends with the number of its line and the fault
abbrev pub EndsRefused : Plain → Command → ℕ → SetupEnd → Type 0
EndsRefused old command number end = (answer : Answer) × (mid : Plain) × Answers old (events.Edit 0 command) answer mid × IsSomeAnd (refusal_of answer) (λ fault. end ≡ Err (Refused number fault))

-- what is left to apply, from what was stated and the balancer
abbrev pub Others : Type 1
Others = Stated → Plain → SetupEnd → Type 0

-- a refused edit ends the reading
abbrev pub ByRefusal : Option EditFault → ℕ → Others → Stated → Plain → SetupEnd → Type 0
ByRefusal (Some fault) n others stated balancer end = end ≡ Err (Refused n fault)
ByRefusal None n others stated balancer end = others stated balancer end

-- a command is an edit at the moment 0
abbrev pub ByEdit : Command → ℕ → Others → Stated → Plain → SetupEnd → Type 0
ByEdit command n others stated old end = (answer : Answer) × (mid : Plain) × Answers old (events.Edit 0 command) answer mid
    × ByRefusal (refusal_of answer) n others stated mid end

-- what a line does that is read so, before others: a bad line ends the reading, a listener goes after those before it, and the last line
-- that states the log's length counts
abbrev pub ByLine : Result SetupLine CommandFault → ℕ → Others → Stated → Plain → SetupEnd → Type 0
ByLine (Err fault) n others stated old end = end ≡ Err (BadLine n fault)
ByLine (Ok (setups.Listen listener)) n others stated old end = others (record stated { listeners = stated.listeners ++ listener ∷ [] }) old end
ByLine (Ok (setups.Log calls)) n others stated old end = others (record stated { log = calls }) old end
ByLine (Ok (setups.Edit command)) n others stated old end = ByEdit command n others stated old end

-- memory was lacking at a line
abbrev pub WantsMemory : ℕ → SetupEnd → Type 0
WantsMemory n end = (fault : CommandFault) × (fault.kind ≡ kinds.NoMemory) × (end ≡ Err (BadLine n fault))

-- these told lines are applied one after the other
abbrev pub Applies : List (ℕ × List ℕ) → Stated → Plain → SetupEnd → Type 0
Applies [] stated old end = end ≡ Ok (stated, old)
Applies (l ∷ others) stated old end =
    ByTest (is_ninth (length stated.listeners) l.1)
    (end ≡ Err (BadLine l.0 (ninth_listener l.1)))
    (ByLine (setup_of l.1) l.0 (Applies others) stated old end ⊎ WantsMemory l.0 end)

-- the told lines of a text are applied to an empty balancer, up to one that is at fault
abbrev pub AppliesAll : List ℕ → SetupEnd → Type 0
AppliesAll text (Ok done) = Applies (told_lines text) nothing_stated empty (Ok done)
AppliesAll text (Err stop) = StopsBy stop (Applies (told_lines text) nothing_stated empty)

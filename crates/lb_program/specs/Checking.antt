-- What the check of a setup file does.
use Rattle.std.specs.Prelude.{◌≡◌, ◌⊎◌, ℕ, List, ◌++◌, codes, Option, IfSome, Result, Ok, Err}
use Rattle.std.specs.Io.KnownBytes.{Appends, Keeps}
use Rattle.std.specs.Str.{IsUtf8}
use Rattle.std.specs.declared.io.Error.{Error}
use Rattle.lb_step.specs.declared.answer.Answer.{Answer}
use Rattle.lb_step.specs.declared.command.Command.TheVariants.{Show}
use Rattle.lb_step.specs.declared.event.Event.TheVariants as events
use Rattle.lb_step.specs.Plain.{Plain, empty}
use Rattle.lb_step.specs.Step.{Answers}
use Rattle.lb_command.specs.Answers.{line_of}
use Rattle.lb_program.specs.Faults.{End, Tells, end_status, end_text, stop_text}
use Rattle.lb_program.specs.Output.{WritesFront}
use Rattle.lb_program.specs.Setup.{Applies, Stated, nothing_stated, told_lines}
use Rattle.lb_program.specs.declared.faults.Stop.{Stop}
use Rattle.lb_program.specs.declared.faults.Stop.TheVariants.{BadLine, Refused, NotUtf8, Input, Output, CountFull, NoMemory}

-- a balancer is asked how much there is of each part, and this line is the answer
pub record ShowsLine (old : Plain) (line : List ℕ) : Type 0 where
  pub answer : Answer
  pub last : Plain
  pub shown : Answers old (events.Edit 0 Show) answer last
  pub is : line ≡ line_of answer ++ codes "\n"

-- all told lines of a text were applied to an empty balancer, which a line then shows
pub record Shows (text line : List ℕ) : Type 0 where
  pub stated : Stated
  pub end : Plain
  pub applied : Applies (told_lines text) nothing_stated empty (Ok (stated, end))
  pub shows : ShowsLine end line

-- the told lines of a text were applied to an empty balancer up to one that is at fault, and nothing was written
pub record StopsAtLine (text : List ℕ) (stop : Stop) (old new : Option (List ℕ)) : Type 0 where
  pub applied : Applies (told_lines text) nothing_stated empty (Err stop)
  pub unwritten : Keeps old new

-- the check of a text ended so, and this is what was applied and written by then
abbrev pub Checks : List ℕ → Option (List ℕ) → Option (List ℕ) → End → Type 0
Checks text old new (Ok done) = (line : List ℕ) × Shows text line × Appends old new line
Checks text old new (Err (BadLine number fault)) = StopsAtLine text (BadLine number fault) old new
Checks text old new (Err (Refused number fault)) = StopsAtLine text (Refused number fault) old new
Checks text old new (Err (NotUtf8 number)) = ⊥
Checks text old new (Err (Input error)) = ⊥
Checks text old new (Err (Output error)) = (line : List ℕ) × Shows text line × WritesFront old new line
Checks text old new (Err (CountFull full)) = ⊥
Checks text old new (Err NoMemory) = Keeps old new

-- a check ended in some way, with its status, what it applied and wrote, and what it told
abbrev pub EndsCheck : List ℕ → Option (List ℕ) → Option (List ℕ) → Option (List ℕ) → Option (List ℕ) → ℕ → Result (Unit {0}) Error → Type 0
EndsCheck text old new told_old told_new status told = (end : End) × (status ≡ end_status end) × Checks text old new end × Tells told_old told_new (end_text end) told

-- what is to be checked could not be read, or is not UTF-8, and nothing else was done
pub record FailsToRead (old new told_old told_new : Option (List ℕ)) (status : ℕ) (told : Result (Unit {0}) Error) : Type 0 where
  pub error : Error
  pub status_is : status ≡ 3
  pub unwritten : Keeps old new
  pub tells : Tells told_old told_new (stop_text (Input error)) told

-- an input was read whole, as a text in UTF-8 that is all of its bytes where these are known, and checked; or it could not be read
abbrev pub ChecksInput : Option (List ℕ) → Option (List ℕ) → Option (List ℕ) → Option (List ℕ) → Option (List ℕ) → ℕ → Result (Unit {0}) Error → Type 0
ChecksInput input old new told_old told_new status told =
    ((text : List ℕ) × IsUtf8 text × IfSome input (λ bytes. text ≡ bytes) × EndsCheck text old new told_old told_new status told)
    ⊎ FailsToRead old new told_old told_new status told

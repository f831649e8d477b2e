-- What a replay does to its output.
use Rattle.std.specs.Prelude.{◌≡◌, ℕ, List, [], ◌++◌, map, Option, Some, IfSome, Result, Ok, Err}
use Rattle.std.specs.declared.io.Error.{Error}
use Rattle.lb_step.specs.declared.event.Event.{Event}
use Rattle.lb_step.specs.declared.answer.Answer.{Answer}
use Rattle.lb_step.specs.Plain.{Plain, empty}
use Rattle.lb_step.specs.Routes.{routes_of}
use Rattle.lb_core.specs.Provenance.{MeetsProvenance}
use Rattle.lb_core.specs.Runs.{IsRun}
use Rattle.lb_command.specs.Answers.{lines_of}
use Rattle.lb_program.specs.Faults.{End, IsOutputWell, Tells, end_status, end_text}
use Rattle.lb_program.specs.Input.{Reading, StopsAt, readings}
use Rattle.lb_program.specs.Output.{Writes}

-- of these readings the first are these events, in order, and the others are left
abbrev pub ReadThen : List (ℕ × Reading) → List Event → List (ℕ × Reading) → Type 0
ReadThen all events left = (front : List (ℕ × Reading)) × (all ≡ front ++ left) × (map (λ r. r.1) front ≡ map (λ e. Some (Ok e)) events)

-- what is left once a replay ends: nothing at the end of its input, and the line that does not read or is no text first where it stops
-- there
abbrev pub EndsBefore : End → List (ℕ × Reading) → Type 0
EndsBefore (Ok done) left = left ≡ []
EndsBefore (Err stop) left = StopsAt stop left

-- where the bytes of an input are known, its told lines up to where a replay ended were read as these events
abbrev pub ReadUpTo : Option (List ℕ) → List Event → End → Type 0
ReadUpTo input events result = IfSome input (λ bytes. (left : List (ℕ × Reading)) × ReadThen (readings bytes) events left × EndsBefore result left)

-- from an empty balancer the events that the told lines of an input are read as, up to where the replay ended, were given answers,
-- each one that comes from a cache that of a kept reply; and an output grew by a front of exactly these answers' lines: by all of them,
-- unless the output failed
pub record Replays (input old new : Option (List ℕ)) (result : End) : Type 0 where
  pub events : List Event
  pub answers : List Answer
  pub end : Plain
  pub run : IsRun empty events answers end
  pub provenance : MeetsProvenance (routes_of empty) events answers
  pub unwritten : List ℕ
  pub written : Writes old new (lines_of answers) unwritten
  pub whole : IsOutputWell result → unwritten ≡ []
  pub read : ReadUpTo input events result

-- these events were given answers, of whose lines some are written and the last ones held
pub record Answered (old new : Option (List ℕ)) (held : List ℕ) (end : Plain) (events : List Event) : Type 0 where
  pub answers : List Answer
  pub run : IsRun empty events answers end
  pub written : Writes old new (lines_of answers) held

-- the events that an input is read as, up to where a replay ended, were answered so
pub record AnswersUpTo (input old new : Option (List ℕ)) (held : List ℕ) (result : End) : Type 0 where
  pub events : List Event
  pub end : Plain
  pub answered : Answered old new held end events
  pub read : ReadUpTo input events result

-- a replay ended in some way, with its status, what it wrote, and what it told
abbrev pub EndsReplay : Option (List ℕ) → Option (List ℕ) → Option (List ℕ) → Option (List ℕ) → Option (List ℕ) → ℕ → Result (Unit {0}) Error → Type 0
EndsReplay input old new told_old told_new status told = (end : End) × (status ≡ end_status end) × Replays input old new end × Tells told_old told_new (end_text end) told

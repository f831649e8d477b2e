-- What the lines of a report say.
use Rattle.std.specs.Prelude.{◌≡◌, ℕ, Bool, true, false, List, [], ◌∷◌, Option, Some, None, flat_map, ◌||◌}
use Rattle.lb_step.specs.declared.answer.Answer.{Answer}
use Rattle.lb_step.specs.declared.event.Event.{Event}
use Rattle.lb_outbox.specs.declared.job.Job.{Job}
use Rattle.lb_loops_io.specs.Counts.{Fails}
use Rattle.lb_loops_io.specs.Events.{timeless}
use Rattle.lb_loops_io.specs.Ways.{sending_of}
use Rattle.lb_loops_io.specs.declared.report.DeviceFault.{DeviceFault}
use Rattle.lb_loops_io.specs.declared.report.DeviceFault.TheVariants as devices
use Rattle.lb_loops_io.specs.declared.report.Line.{Line}
use Rattle.lb_loops_io.specs.declared.report.Line.TheVariants as lines
use Rattle.lb_loops_io.specs.declared.report.Outcome.{Outcome}
use Rattle.lb_loops_io.specs.declared.report.Outcome.TheVariants.{Answered, Fault}
use Rattle.lb_loops_io.specs.declared.report.Sending.{Sending}
use Rattle.lb_loops_io.specs.declared.report.Sending.TheVariants.{Failed}
use Rattle.lb_loops_io.specs.declared.report.Why.TheVariants as whys

-- the event of a line
abbrev pub event_in : Line → List Event
event_in (lines.Event source event outcome sending) = event ∷ []
event_in _ = []

-- the events of these lines, in order
abbrev pub events_in : List Line → List Event
events_in = flat_map event_in

-- an event with its answer, where it has one
abbrev pub answered_as : Event → Outcome → List (Event × Answer)
answered_as event (Answered answer) = (event, answer) ∷ []
answered_as event (Fault fault excuse) = []

abbrev pub pair_in : Line → List (Event × Answer)
pair_in (lines.Event source event outcome sending) = answered_as event outcome
pair_in _ = []

-- the events of these lines that were answered, with their answers, in order
abbrev pub pairs : List Line → List (Event × Answer)
pairs = flat_map pair_in

-- the job of a line
abbrev pub received_in : Line → List Job
received_in (lines.Job job sending) = job ∷ []
received_in _ = []

-- the jobs of these lines, in order
abbrev pub jobs_received : List Line → List Job
jobs_received = flat_map received_in

-- whether a send failed by a device
abbrev pub is_by_device : Sending → Bool
is_by_device (Failed whys.Device) = true
is_by_device _ = false

-- whether a send of these lines failed by a device
abbrev pub any_by_device : List Line → Bool
any_by_device [] = false
any_by_device (line ∷ more) = is_by_device (sending_of line) || any_by_device more

-- The first device fault between two moments, by the counts of failures of the sockets and of what is outside: none where neither
-- failed; outside, after which nothing is done, only where the sockets had not failed before.
abbrev pub FirstFault : Option DeviceFault → ℕ → ℕ → ℕ → ℕ → Type 0
FirstFault None s s' o o' = (s' ≡ s) × (o' ≡ o)
FirstFault (Some devices.Sockets) s s' o o' = Fails s s'
FirstFault (Some devices.Outside) s s' o o' = (s' ≡ s) × Fails o o'

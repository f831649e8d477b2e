-- The sends of an answer: a letter at most.
use Rattle.std.specs.Prelude.{◌≡◌, ℕ, List, Option, Some, None, Result, Ok, Err}
use Rattle.lb_wire.specs.Answer.{refusal_of}
use Rattle.lb_wire.specs.Query.{Reads}
use Rattle.lb_wire.specs.Numbers.{rcode_number}
use Rattle.lb_wire.specs.declared.query.QueryFault.{QueryFault}
use Rattle.lb_wire.specs.declared.query.QueryView.{QueryView}
use Rattle.lb_wire.specs.declared.rcode.Rcode.TheVariants as rcodes
use Rattle.lb_step.specs.declared.answer.Answer.{Answer}
use Rattle.lb_step.specs.declared.answer.Answer.TheVariants as answers
use Rattle.lb_step.specs.declared.event.Event.{Event}
use Rattle.lb_step.specs.declared.event.Event.TheVariants.{Edit, HealthResult, Query, Reply, Tick}
use Rattle.lb_outbox.specs.declared.job.Job.{Job}
use Rattle.lb_outbox.specs.declared.job.Job.TheVariants as jobs
use Rattle.lb_loops_io.specs.declared.letter.End.{End}
use Rattle.lb_loops_io.specs.declared.letter.End.TheVariants.{Client, Server}
use Rattle.lb_loops_io.specs.declared.report.Outcome.{Outcome}
use Rattle.lb_loops_io.specs.declared.report.Outcome.TheVariants.{Answered, Fault}

-- whom a message goes to, and its octets
abbrev pub Letter : Type 0
Letter = End × List ℕ

-- a message to the origin of a query
abbrev pub to_asker : Event → List ℕ → Option Letter
to_asker (Query now origin kind word bytes) message = Some (Client origin, message)
to_asker _ message = None

-- the letter of an answer: Local and NoMemory to the query's origin, Forward to the server by its lane, Deliver and Expired to the
-- origin that they name, and of any other answer none
abbrev pub answer_letter : Event → Answer → Option Letter
answer_letter event (answers.Local bytes why) = to_asker event bytes
answer_letter event (answers.NoMemory bytes) = to_asker event bytes
answer_letter event (answers.Forward server lane id bytes) = Some (Server server lane, bytes)
answer_letter event (answers.Deliver origin bytes kept) = Some (Client origin, bytes)
answer_letter event (answers.Expired origin bytes) = Some (Client origin, bytes)
answer_letter event _ = None

-- the letter of what came of an event
abbrev pub outcome_letter : Event → Outcome → Option Letter
outcome_letter event (Answered answer) = answer_letter event answer
outcome_letter event (Fault fault (Some bytes)) = to_asker event bytes
outcome_letter event (Fault fault None) = None

-- the letter of a job
abbrev pub job_letter : Job → Letter
job_letter (jobs.ToServer server lane bytes) = (Server server lane, bytes)
job_letter (jobs.ToClient origin bytes) = (Client origin, bytes)

-- ServFail for a query that reads
abbrev pub excuse_of : Result QueryView QueryFault → Option (List ℕ)
excuse_of (Ok view) = Some (refusal_of view (rcode_number rcodes.ServFail))
excuse_of (Err fault) = None

-- what is answered to an event that the desk did not take
abbrev pub Excuses : Event → Option (List ℕ) → Type 0
Excuses (Query now origin kind word bytes) excuse = (reading : Result QueryView QueryFault) × Reads bytes reading × (excuse ≡ excuse_of reading)
Excuses (Reply now server lane bytes) excuse = excuse ≡ None
Excuses (Tick now) excuse = excuse ≡ None
Excuses (HealthResult now server ok) excuse = excuse ≡ None
Excuses (Edit now command) excuse = excuse ≡ None

-- what may come of an event: an answer, or a fault with its excuse
abbrev pub IsOutcome : Event → Outcome → Type 0
IsOutcome event (Answered answer) = Unit {0}
IsOutcome event (Fault fault excuse) = Excuses event excuse

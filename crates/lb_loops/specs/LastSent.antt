-- Whether a query may be outstanding.
use Rattle.std.specs.Prelude.{ℕ, Bool, true, false, not, nat_lt, ◌==◌, ◌&&◌, ◌-◌}
use Rattle.lb_step.specs.declared.answer.Answer.{Answer}
use Rattle.lb_step.specs.declared.answer.Answer.TheVariants.{Deliver, Expired, Forward}
use Rattle.lb_loops_io.specs.declared.report.Line.{Line}
use Rattle.lb_loops_io.specs.declared.report.Line.TheVariants as lines
use Rattle.lb_loops_io.specs.declared.report.Outcome.{Outcome}
use Rattle.lb_loops_io.specs.declared.report.Outcome.TheVariants.{Answered}
use Rattle.lb_outbox.specs.declared.job.Job.{Job}
use Rattle.lb_outbox.specs.declared.job.Job.TheVariants.{ToServer}

-- a query was sent on, which a stamp other than 0 says, and from it to a moment less than a span has passed
abbrev pub is_within : ℕ → ℕ → ℕ → Bool
is_within stamp moment span = not (stamp == 0) && nat_lt (moment - stamp) span

-- an event was answered by sending its query on
abbrev pub is_forwarded : Outcome → Bool
is_forwarded (Answered (Forward server lane id sent)) = true
is_forwarded _ = false

-- a job is a query of the HTTP front that is sent on
abbrev pub is_to_server : Job → Bool
is_to_server (ToServer server lane sent) = true
is_to_server _ = false

-- a query was sent on by a line
abbrev pub is_sent_on : Line → Bool
is_sent_on (lines.Event source event outcome sending) = is_forwarded outcome
is_sent_on (lines.Job job sending) = is_to_server job
is_sent_on (lines.Probe server word sending) = false

-- an event was answered by handing a query's end to its client
abbrev pub is_ended : Outcome → Bool
is_ended (Answered (Deliver origin sent kept)) = true
is_ended (Answered (Expired origin sent)) = true
is_ended _ = false

-- a query is over by a line
abbrev pub is_over : Line → Bool
is_over (lines.Event source event outcome sending) = is_ended outcome
is_over _ = false

-- Ends of an outbox that go on.
use Rattle.std.proofs.Common.{◌≡◌, ◌⊎◌, inl, inr, List, [], ◌∷◌, Option, None, Some, Result, Ok, Err, OnOk, OnErr, sym, ap, subst, arith}
use Rattle.lb_loops_clock.specs.World.{SentAgain, World as Clock}
use Rattle.lb_loops_io.specs.declared.report.Line.{Line}
use Rattle.lb_loops_io.specs.declared.roster.Listed.{Listed}
use Rattle.lb_loops_tcp.specs.Turn.{Turned}
use Rattle.lb_loops_tcp.specs.World.{World}
use Rattle.lb_loops.specs.Running.{ClockGoesOn, ReceivesOn, clock_stays, receives_none}
use Rattle.lb_outbox.specs.declared.job.Job.{Job}

-- a clock that sends a job once more, if there is one, or finds no room has gone on
pub sends_again : {T E : Type 0} (a b : Clock) (job : Option Job) (result : Result T E) → OnOk result (SentAgain a b job) → OnErr result (b ≡ a) → ClockGoesOn a b
sends_again a b (Some job) (Ok done) sent same = (rw (ap (λ (w : Clock). w.answered) sent) (omega arith), (job ∷ [], ap (λ (w : Clock). w.outbox) sent))
sends_again a b None (Ok done) sent same = subst (ClockGoesOn a) (sym sent) (clock_stays a)
sends_again a b job (Err back) sent same = subst (ClockGoesOn a) (sym same) (clock_stays a)

-- a turn of streams has received what was received before it and maybe more
pub turn_receives : (roster : List Listed) (old new : World) (lines : List Line) → Turned roster old new lines → ReceivesOn old.jobs new.jobs
turn_receives roster old new lines (inl went) = (went.turns.received.deliveries, went.turns.received.received)
turn_receives roster old new lines (inr stood) = subst (λ (w : World). ReceivesOn old.jobs w.jobs) (sym stood.same) (receives_none old.jobs)

use Rattle.std.proofs.Common.{◌≤◌, ◌+◌, ◌++◌, List, length, vec_len}
use Rattle.std.specs.Vec.{vec_capacity}
use Rattle.std.specs.Vec.Iter.{into_iter_items}
use Rattle.lb_step.specs.declared.answer.Answer.{Answer}
use Rattle.lb_step.specs.Plain.{Plain}
use Rattle.lb_core.specs.Runs.{IsRun}
use Rattle.lb_core.proofs.runs.run.Given as goal

-- whatever continues what is left continues the whole
abbrev pub invariant-loop-event : goal.invariant-loop-event
invariant-loop-event l =
    (goal.iterator-loop-event).can_next l.event-iterator
    × (goal.iterator-loop-event).is_finite l.event-iterator
    × (vec_len l.answers + length (into_iter_items l.event-iterator) ≤ vec_capacity l.answers)
    × ((rest : List Answer) (new : Plain) → IsRun l.balancer (into_iter_items l.event-iterator) rest new → IsRun l.fn.balancer l.fn.events.items (l.answers.items ++ rest) new)

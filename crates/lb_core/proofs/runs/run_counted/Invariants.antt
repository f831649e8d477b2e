use Rattle.std.proofs.Common.{◌≤◌, ◌+◌, length, vec_len}
use Rattle.std.specs.Vec.{vec_capacity}
use Rattle.std.specs.Vec.Iter.{into_iter_items}
use Rattle.lb_core.proofs.CountRuns.{Continues}
use Rattle.lb_core.proofs.runs.run_counted.Given as goal

abbrev pub invariant-loop-event : goal.invariant-loop-event
invariant-loop-event l =
    (goal.iterator-loop-event).can_next l.event-iterator
    × (goal.iterator-loop-event).is_finite l.event-iterator
    × (vec_len l.answers + length (into_iter_items l.event-iterator) ≤ vec_capacity l.answers)
    × Continues l.fn.balancer l.fn.tally l.fn.events.items l.answers.items l.balancer l.tally (into_iter_items l.event-iterator)

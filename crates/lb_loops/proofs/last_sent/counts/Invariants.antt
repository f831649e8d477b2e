use Rattle.std.proofs.Common.{◌≡◌, ◌≤◌, filter, length, take}
use Rattle.lb_loops.specs.LastSent.{is_over, is_sent_on}
use Rattle.lb_loops.proofs.last_sent.counts.Given as goal

abbrev pub invariant-loop-line : goal.invariant-loop-line
invariant-loop-line l =
    (l.sent ≡ length (filter is_sent_on (take l.line-index l.lines)))
    × (l.over ≡ length (filter is_over (take l.line-index l.lines)))
    × (l.sent ≤ l.line-index)
    × (l.over ≤ l.line-index)

use Rattle.std.proofs.Common.{sum_by, vec_len, ◌+◌, ◌≡◌, ◌≤◌}
use Rattle.lb_desk.proofs.desk.gathered.Given as goal

abbrev pub invariant-loop-account : goal.invariant-loop-account
invariant-loop-account g l = (l.all.parts + vec_len l.seats ≡ vec_len l.fn.seats) × (l.all.amount + sum_by (λ s. s.calls) l.seats.items ≡ sum_by (λ s. s.calls) l.fn.seats.items) × (l.all.parts ≤ g.J.Ledger.parts)

abbrev pub decreases-loop-account : goal.decreases-loop-account
decreases-loop-account g l = goal.left-loop-account g l

use Rattle.std.proofs.Common.{All, length, take, ◌≤◌}
use Rattle.lb_desk.proofs.desk.few_receipts.Given as goal

abbrev pub invariant-loop-seat : goal.invariant-loop-seat
invariant-loop-seat g l = All (λ s. length s.receipts ≤ s.calls) (take l.seat-index l.seats)

use Rattle.std.proofs.Common.{length, take, ◌≡◌, ◌≤◌}
use Rattle.lb_desk.specs.Entry.{receipts_of}
use Rattle.lb_desk.proofs.agree.agrees.Given as goal

abbrev pub invariant-loop-place : goal.invariant-loop-place
invariant-loop-place l = (take l.next l.receipts ≡ receipts_of l.seat (take l.place l.log)) × (l.next ≤ length l.receipts)

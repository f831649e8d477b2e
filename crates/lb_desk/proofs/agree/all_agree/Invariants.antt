use Rattle.std.proofs.Common.{All, take, ◌≡◌}
use Rattle.lb_desk.specs.Entry.{receipts_of}
use Rattle.lb_desk.proofs.agree.all_agree.Given as goal

abbrev pub invariant-loop-seat : goal.invariant-loop-seat
invariant-loop-seat g l = All (λ s. s.receipts ≡ receipts_of s.number l.log) (take l.seat-index l.seats)

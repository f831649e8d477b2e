use Rattle.std.proofs.Common.{All, [], map, ◌+◌, ◌≡◌}
use Rattle.std.specs.List.{range_with_len}
use Rattle.lb_desk.proofs.desk.seats_by.Given as goal

abbrev pub invariant-loop-number : goal.invariant-loop-number
invariant-loop-number g l = (l.rest.parts + l.number ≡ l.seats) × (l.rest.amount ≡ 0) × (map (λ s. s.number.0) l.all.items ≡ range_with_len 0 l.number) × All (λ s. (s.calls ≡ 0) × (s.receipts ≡ [])) l.all.items

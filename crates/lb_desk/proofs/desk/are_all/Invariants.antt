use Rattle.std.proofs.Common.{true, ◌<◌, ◌==◌, ◌≡◌, ℕ}
use Rattle.std.specs.List.{list_any}
use Rattle.lb_desk.proofs.desk.are_all.Given as goal

abbrev pub invariant-loop-number : goal.invariant-loop-number
invariant-loop-number g l = (k : ℕ) → k < l.number → list_any (λ s. k == s.number.0) l.seats ≡ true

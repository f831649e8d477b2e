use Rattle.std.proofs.Common.{drop}
use Rattle.lb_limits.specs.Window.{reserved_at}
use Rattle.lb_chain.specs.Counting.{PartlyReserved}
use Rattle.lb_chain.proofs.PlacesFrom.{Visited}
use Rattle.lb_chain.proofs.counting.reserve_rules.Given as goal

abbrev pub invariant-loop-at : goal.invariant-loop-at
invariant-loop-at l =
    Visited (λ m. reserved_at m l.addr l.now) l.passes l.fn.rules.items l.rules.items (drop l.at-index l.places)
    × PartlyReserved l.passes l.addr l.now l.fn.rules.items l.rules.items

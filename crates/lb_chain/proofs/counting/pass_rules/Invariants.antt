use Rattle.std.proofs.Common.{drop}
use Rattle.lb_limits.specs.Window.{passed_at}
use Rattle.lb_chain.proofs.PlacesFrom.{Visited}
use Rattle.lb_chain.proofs.counting.pass_rules.Given as goal

abbrev pub invariant-loop-at : goal.invariant-loop-at
invariant-loop-at l = Visited (λ m. passed_at m l.addr l.now) l.passes l.fn.rules.items l.rules.items (drop l.at-index l.places)

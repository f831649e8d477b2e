use Rattle.std.proofs.Common.{◌≡◌}
use Rattle.lb_limits.specs.Window.{passed_at}
use Rattle.lb_chain.proofs.ChangedRules.{limits_so_far}
use Rattle.lb_chain.proofs.counting.pass_limits.Given as goal

abbrev pub invariant-loop-at : goal.invariant-loop-at
invariant-loop-at l = l.limits.items ≡ limits_so_far (λ m. passed_at m l.addr l.now) l.passes l.rule l.at l.fn.limits.items

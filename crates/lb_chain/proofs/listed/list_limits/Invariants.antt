use Rattle.std.proofs.Common.{◌≡◌, ◌++◌, drop}
use Rattle.lb_chain.specs.Listed.{counted_from}
use Rattle.lb_chain.proofs.listed.list_limits.Given as goal

abbrev pub invariant-loop-at : goal.invariant-loop-at
invariant-loop-at l = l.all.items ++ counted_from l.at (drop l.at l.limits) ≡ counted_from 0 l.limits

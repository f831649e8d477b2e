use Rattle.std.proofs.Common.{◌≡◌, take}
use Rattle.lb_step.proofs.upstream.list_checks.Given as goal

abbrev pub invariant-loop-check : goal.invariant-loop-check
invariant-loop-check l = l.list.items ≡ take l.check-index l.checks

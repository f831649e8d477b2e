use Rattle.std.proofs.Common.{◌≡◌, false, take}
use Rattle.std.specs.List.{All}
use Rattle.lb_limits.specs.Moments.{is_recent}
use Rattle.lb_limits.specs.Ticks.{address_count, moments_of}
use Rattle.lb_limits.proofs.ticks.out_of.Given as goal

abbrev pub invariant-loop-tick : goal.invariant-loop-tick
invariant-loop-tick l = (l.out ≡ address_count (take l.tick-index l.ticks)) × All (λ m. is_recent l.now m ≡ false) (moments_of (take l.tick-index l.ticks))

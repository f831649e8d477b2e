use Rattle.std.proofs.Common.{◌≡◌, ◌++◌, map, take}
use Rattle.lb_limits.specs.Moments.{recent_of}
use Rattle.lb_limits.specs.Buckets.{pass_of}
use Rattle.lb_limits.proofs.bucket.list_moments.Given as goal

abbrev pub invariant-loop-moment : goal.invariant-loop-moment
invariant-loop-moment l = l.passes.items ≡ l.fn.passes.items ++ map (pass_of l.source) (recent_of l.now (take l.moment-index l.moments))

use Rattle.std.proofs.Common.{◌≡◌, length, take}
use Rattle.lb_limits.specs.Buckets.{held_at}
use Rattle.lb_limits.proofs.buckets.count.Given as goal

abbrev pub invariant-loop-bucket : goal.invariant-loop-bucket
invariant-loop-bucket l = l.count ≡ length (held_at l.moment (take l.bucket-index l.buckets))

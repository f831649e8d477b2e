use Rattle.std.proofs.Common.{◌≡◌, take}
use Rattle.lb_limits.specs.Buckets.{held_at}
use Rattle.lb_limits.proofs.buckets.list.Given as goal

abbrev pub invariant-loop-bucket : goal.invariant-loop-bucket
invariant-loop-bucket l = l.passes.items ≡ held_at l.moment (take l.bucket-index l.buckets)

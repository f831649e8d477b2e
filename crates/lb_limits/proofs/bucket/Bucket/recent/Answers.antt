use Rattle.std.proofs.Common.{subst, sym}
use Rattle.std.specs.List.Sorted.{IsNonDecreasing}
use Rattle.lb_limits.proofs.Recent.{rises_front, rises_back}
use Rattle.lb_limits.proofs.bucket.Bucket.recent.Goals as goal

pub recent_count-requires : goal.recent_count-requires
recent_count-requires c = rises_front c.as_slices.result.0.now c.as_slices.result.1.now (subst IsNonDecreasing (sym c.as_slices.ensures) c.requires)

pub recent_count-requires-2 : goal.recent_count-requires-2
recent_count-requires-2 c = rises_back c.as_slices.result.0.now c.as_slices.result.1.now (subst IsNonDecreasing (sym c.as_slices.ensures) c.requires)

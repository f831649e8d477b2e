use Rattle.std.proofs.Common.{rules, of_calls}
use Rattle.std.proofs.lemmas.Fn.{always_returns_same}
use Rattle.lb_limits.specs.Buckets.{is_below}
use Rattle.lb_limits.proofs.Places.{parted_by, place_is}
use Rattle.lb_limits.proofs.buckets.place_of.Goals as goal

pub returns : goal.returns
returns c =
    place_is c.args.key.now c.args.buckets.now _ c.partition_point.ensures.bound
    (c.partition_point.ensures.partitioned (is_below c.args.key.now) (always_returns_same _ _ _ (λ a r f k. search (rules, of_calls))) (parted_by c.args.key.now c.args.buckets.now c.requires))

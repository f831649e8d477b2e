use Rattle.std.proofs.Common.{ltb, rules, of_calls}
use Rattle.std.proofs.lemmas.Fn.{always_returns_same}
use Rattle.lb_limits.proofs.Tallies.{parted_ticks, tick_place}
use Rattle.lb_limits.proofs.ticks.place_of.Goals as goal

pub returns : goal.returns
returns c =
    tick_place c.args.moment c.args.ticks.now _ c.partition_point.ensures.bound
    (c.partition_point.ensures.partitioned (λ t. ltb t.moment c.args.moment) (always_returns_same _ _ _ (λ a r f k. search (rules, of_calls))) (parted_ticks c.args.moment c.args.ticks.now c.requires))

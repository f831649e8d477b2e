use Rattle.std.proofs.Common.{not, rules, of_calls}
use Rattle.std.proofs.lemmas.Fn.{always_returns_same}
use Rattle.lb_limits.specs.Moments.{is_recent}
use Rattle.lb_limits.proofs.Tallies.{parted_old, ticks_from}
use Rattle.lb_limits.proofs.ticks.recent_from.Goals as goal

pub returns-clause-rest : goal.returns-clause-rest
returns-clause-rest c =
    ticks_from c.args.now _ c.args.ticks.now
    (c.partition_point.ensures.partitioned (λ t. not (is_recent c.args.now t.moment)) (always_returns_same _ _ _ (λ a r f k. search (rules, of_calls))) (parted_old c.args.now c.args.ticks.now c.requires))

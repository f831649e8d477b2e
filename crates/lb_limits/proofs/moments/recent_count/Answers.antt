use Rattle.std.proofs.Common.{not, rules, of_calls}
use Rattle.std.proofs.lemmas.Fn.{always_returns_same}
use Rattle.lb_limits.specs.Moments.{is_recent}
use Rattle.lb_limits.proofs.Recent.{parted, recent_count_is}
use Rattle.lb_limits.proofs.moments.recent_count.Goals as goal

pub returns-clause-count : goal.returns-clause-count
returns-clause-count c =
    recent_count_is c.args.now c.args.moments.now _
    (c.partition_point.ensures.partitioned (λ m. not (is_recent c.args.now m)) (always_returns_same _ _ _ (λ a r f k. search (rules, of_calls))) (parted c.args.now c.args.moments.now c.requires))

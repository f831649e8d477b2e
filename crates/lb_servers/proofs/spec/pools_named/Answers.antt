use Rattle.std.proofs.Common.{length, ap, ◌∙◌, arith}
use Rattle.lb_servers.proofs.Joined.{joined_long, named_none, named_some}
use Rattle.lb_servers.proofs.spec.pools_named.Goals as goal
use Rattle.lb_servers.proofs.spec.pools_named.Goals.{in-Some, in_default}

pub loop-name-preserved : goal.loop-name-preserved
loop-name-preserved c =
    elim c.match-pool_named.branch [
      | in-Some w ↦ (
        w.ids-is ∙ w.join.ensures ∙ named_some c.args.pools.now c.args.names.now c.loop-name.name-index c.name-item.result c.loop-name.ids c.pool_named.result w.in-Some.pool c.loop-name-test.true c.name-item.is c.pool_named.ensures w.in-Some.is c.loop-name.invariant.0,
        omega (arith, ap length (w.ids-is ∙ w.join.ensures), joined_long c.loop-name.ids w.in-Some.pool, c.loop-name.invariant.1),
      )
      | in_default w ↦ (
        w.ids-is ∙ named_none c.args.pools.now c.args.names.now c.loop-name.name-index c.name-item.result c.loop-name.ids c.pool_named.result c.loop-name-test.true c.name-item.is c.pool_named.ensures w.in_default.is c.loop-name.invariant.0,
        omega (arith, ap length w.ids-is, c.loop-name.invariant.1),
      )
    ]

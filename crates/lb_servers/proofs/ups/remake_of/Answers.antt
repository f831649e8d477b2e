use Rattle.std.proofs.Common.{◌≡◌, ◌+◌, ◌<◌, ℕ, List, length, get_or, set, take, sym, subst, ◌∙◌, arith}
use Rattle.std.proofs.lemmas.List.{length-set, take_all}
use Rattle.lb_wire.specs.declared.ids.PoolId.{PoolId}
use Rattle.lb_servers.specs.Pick.{AreRemade, up_servers}
use Rattle.lb_servers.specs.Ranks.{StandAt}
use Rattle.lb_servers.proofs.ByNumber.{each_at}
use Rattle.lb_servers.proofs.UpServers.{remade_more}
use Rattle.lb_servers.proofs.ups.remake_of.Goals as goal

pub loop-pool-preserved : goal.loop-pool-preserved
loop-pool-preserved c =
    let pools = c.args.pools.now in
    let i = c.loop-pool.pool-index in
    let d : PoolId = record { 0 = 0 } in
    let pool : PoolId = get_or pools i d in
    let within : pool.0 < length c.loop-pool.ups = omega (arith, each_at (λ p. p.0 < length c.args.ups.now) pools i d c.loop-pool-test.true c.requires.there, c.loop-pool.invariant.1) in
    let here : c.from.result ≡ pool.0 = c.from.ensures in
    let stand : StandAt c.args.servers.now c.up_in.result (up_servers pool c.args.servers.now) = c.up_in.ensures in (
      subst (λ (k : ℕ). AreRemade (take (i + 1) pools) c.args.servers.now c.args.ups.now (set c.loop-pool.ups k c.up_in.result)) (sym here)
          (remade_more pools i d c.args.servers.now c.args.ups.now c.loop-pool.ups c.up_in.result c.loop-pool-test.true within c.loop-pool.invariant.0 stand),
      length-set c.loop-pool.ups c.from.result c.up_in.result ∙ c.loop-pool.invariant.1,
    )

pub returns-clause-up : goal.returns-clause-up
returns-clause-up c = subst (λ (ps : List PoolId). AreRemade ps c.args.servers.now c.args.ups.now c.loop-pool.ups) (take_all c.loop-pool.pool-index c.args.pools.now (omega (arith, c.loop-pool-test.false))) c.loop-pool.invariant.0

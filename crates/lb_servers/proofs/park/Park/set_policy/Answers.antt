use Rattle.std.proofs.Common.{◌+◌, refl, ap, ◌∙◌}
use Rattle.lb_servers.specs.Pool.{change_at, with_policy}
use Rattle.lb_servers.proofs.AreBackends.{pool_changed, pools_back}
use Rattle.lb_servers.proofs.park.Park.set_policy.Goals as goal

pub invariant_of-self : goal.invariant_of-self
invariant_of-self c =
    pools_back (with_policy c.args.policy) c.from-at.result c.self.inside.pools c.set_policy_at.new.pools _ _ _ c.self.inside.servers.items c.self.inside.ranks c.self.inside.ups.items (c.set_policy_at.ensures ∙ ap (change_at (with_policy c.args.policy) c.from-at.result) c.as_mut_slice.ensures.value)
    (pool_changed (with_policy c.args.policy) (λ p. refl) (λ p. refl) c.from-at.result (record { next = c.self.inside.last_server + 1; next_cache = c.self.inside.last_cache + 1; servers = c.self.inside.servers.items; pools = c.self.inside.pools.items })) c.self.invariant

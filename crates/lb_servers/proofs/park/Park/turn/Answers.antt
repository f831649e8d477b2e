use Rattle.std.proofs.Common.{◌+◌, refl, ap, ◌∙◌}
use Rattle.lb_servers.specs.Pool.{change_at, turned}
use Rattle.lb_servers.proofs.AreBackends.{pool_changed, pools_back}
use Rattle.lb_servers.proofs.park.Park.turn.Goals as goal

pub invariant_of-self : goal.invariant_of-self
invariant_of-self c =
    pools_back turned c.from.result c.self.inside.pools c.turn_at.new.pools _ _ _ c.self.inside.servers.items c.self.inside.ranks c.self.inside.ups.items (c.turn_at.ensures ∙ ap (change_at turned c.from.result) c.as_mut_slice.ensures.value)
    (pool_changed turned (λ p. refl) (λ p. refl) c.from.result (record { next = c.self.inside.last_server + 1; next_cache = c.self.inside.last_cache + 1; servers = c.self.inside.servers.items; pools = c.self.inside.pools.items })) c.self.invariant

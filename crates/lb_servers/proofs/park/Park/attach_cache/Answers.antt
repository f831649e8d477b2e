use Rattle.std.proofs.Common.{◌+◌, Some, ap, ◌∙◌}
use Rattle.lb_servers.specs.Pool.{change_at, with_cache}
use Rattle.lb_servers.proofs.AreBackends.{pool_attached, pools_back}
use Rattle.lb_servers.proofs.park.Park.attach_cache.Goals as goal

pub invariant_of-self : goal.invariant_of-self
invariant_of-self c =
    let change = with_cache (Some (record { 0 = c.self.inside.last_cache + 1 })) in
    pools_back change c.from.result c.self.inside.pools c.set_cache_at.new.pools _ _ _ c.self.inside.servers.items c.self.inside.ranks c.self.inside.ups.items (c.set_cache_at.ensures ∙ ap (change_at change c.from.result) c.as_mut_slice.ensures.value)
    (pool_attached c.from.result (record { next = c.self.inside.last_server + 1; next_cache = c.self.inside.last_cache + 1; servers = c.self.inside.servers.items; pools = c.self.inside.pools.items })) c.self.invariant

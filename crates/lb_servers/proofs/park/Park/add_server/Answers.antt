use Rattle.std.proofs.Common.{◌≡◌, ◌+◌, ◌<◌, List, length, sym, ap, subst, ◌∙◌, arith}
use Rattle.std.proofs.lemmas.List.{length_push}
use Rattle.lb_servers.specs.declared.pool.Pool.{Pool}
use Rattle.lb_servers.specs.declared.server.Loaded.{Loaded}
use Rattle.lb_servers.specs.Park.{Backends, server_fault}
use Rattle.lb_servers.specs.Pick.{AreUps}
use Rattle.lb_servers.specs.Ranks.{StandAt, by_order}
use Rattle.lb_servers.specs.Spec.{new_server}
use Rattle.lb_servers.proofs.AreBackends.{server_pushed, with_ups}
use Rattle.lb_servers.proofs.park.Park.add_server.Goals as goal

pub invariant_of-self : goal.invariant_of-self
invariant_of-self c =
    let i = c.self.inside in
    let park : Backends = record { next = i.last_server + 1; next_cache = i.last_cache + 1; servers = i.servers.items; pools = i.pools.items } in
    let few : length i.servers.items < 256 = subst (λ (b : Backends). length b.servers < 256) (sym c.self.view_is) c.in_default.ensures.servers in
    let each : length c.remake.new.ups ≡ length i.ups.items = c.remake.ensures.each ∙ ap length c.as_mut_slice.ensures.value in
    with_ups _ _ c.push.new.servers.items i.pools.items c.of-self-inside.result i.ups c.remake.new.ups each (
      record {
        servers_few = omega (arith, ap length c.in-Ok.ensures.pushed, length_push i.servers.items c.new_server-server.result, few);
        pools_few = c.self.invariant.0.pools_few;
        ranked = subst (λ (ls : List Loaded). StandAt ls c.of-self-inside.result (by_order ls)) c.as_slice-in-Ok.ensures.value c.of-self-inside.ensures;
        ups_each = each ∙ c.self.invariant.0.ups_each;
        up = subst (λ (ls : List Loaded). AreUps ls c.remake.new.ups) c.as_slice-in-Ok-2.ensures.value c.remake.ensures.up;
      },
      server_pushed park c.args.spec c.new_server-server.result c.push.new.servers.items (c.in_default.ensures.fault ∙ ap (λ (b : Backends). server_fault b c.args.spec) (sym c.self.view_is)) c.new_server-server.ensures.few few
          (c.new_server-server.ensures.server ∙ ap (λ (ps : List Pool). new_server (i.last_server + 1) ps c.args.spec) c.as_slice.ensures.value) c.in-Ok.ensures.pushed c.self.invariant.1,
    )

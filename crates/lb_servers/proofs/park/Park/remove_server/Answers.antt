use Rattle.std.proofs.Common.{◌≡◌, Bool, List, Some, ◌+◌, length, not, ap, subst, sym, ◌∙◌, arith}
use Rattle.std.specs.List.{position}
use Rattle.lb_servers.specs.declared.server.Loaded.{Loaded}
use Rattle.lb_servers.specs.Park.{AreBackends}
use Rattle.lb_servers.specs.Pick.{AreUps}
use Rattle.lb_servers.specs.Ranks.{StandAt, by_order}
use Rattle.lb_servers.specs.Server.{is_server}
use Rattle.lb_servers.proofs.AreBackends.{server_removed, with_ups}
use Rattle.lb_servers.proofs.IsPark.{fewer}
use Rattle.lb_servers.proofs.park.Park.remove_server.Goals as goal

pub of-self-inside-requires : goal.of-self-inside-requires
of-self-inside-requires c = omega (arith, ap length (c.as_slice-2.ensures.value ∙ c.remove.ensures c.args.id (c.self.invariant.1.servers.order, ap (position (is_server c.args.id)) (sym c.as_slice.ensures.value) ∙ sym c.place_of.ensures.place ∙ c.in-Some.is)), fewer (λ l. not (is_server c.args.id l)) c.self.inside.servers.items, c.self.invariant.0.servers_few)

pub invariant_of-self : goal.invariant_of-self
invariant_of-self c =
    let keeps : Loaded → Bool = λ l. not (is_server c.args.id l) in
    let placed : position (is_server c.args.id) c.self.inside.servers.items ≡ Some c.in-Some.at = ap (position (is_server c.args.id)) (sym c.as_slice.ensures.value) ∙ sym c.place_of.ensures.place ∙ c.in-Some.is in
    let removed = c.remove.ensures c.args.id (c.self.invariant.1.servers.order, placed) in
    let each : length c.remake.new.ups ≡ length c.self.inside.ups.items = c.remake.ensures.each ∙ ap length c.as_mut_slice.ensures.value in
    with_ups _ _ c.remove.new.servers.items c.self.inside.pools.items c.of-self-inside.result c.self.inside.ups c.remake.new.ups each (
      record {
        servers_few = omega (arith, ap length removed, fewer keeps c.self.inside.servers.items, c.self.invariant.0.servers_few);
        pools_few = c.self.invariant.0.pools_few;
        ranked = subst (λ (ls : List Loaded). StandAt ls c.of-self-inside.result (by_order ls)) c.as_slice-2.ensures.value c.of-self-inside.ensures;
        ups_each = each ∙ c.self.invariant.0.ups_each;
        up = subst (λ (ls : List Loaded). AreUps ls c.remake.new.ups) c.as_slice-3.ensures.value c.remake.ensures.up;
      },
      subst (λ (ls : List Loaded). AreBackends (record { next = c.self.inside.last_server + 1; next_cache = c.self.inside.last_cache + 1; servers = ls; pools = c.self.inside.pools.items })) (sym removed)
          (server_removed keeps (record { next = c.self.inside.last_server + 1; next_cache = c.self.inside.last_cache + 1; servers = c.self.inside.servers.items; pools = c.self.inside.pools.items }) c.self.invariant.1),
    )

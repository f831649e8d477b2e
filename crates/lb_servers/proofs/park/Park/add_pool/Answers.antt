use Rattle.std.proofs.Common.{◌≡◌, ◌∷◌, ◌++◌, [], List, length, rules, sym, ap, subst, ◌∙◌, arith}
use Rattle.std.specs.List.{list_any}
use Rattle.lb_servers.specs.declared.server.Loaded.{Loaded}
use Rattle.lb_servers.specs.Pick.{up_servers}
use Rattle.lb_servers.specs.Pool.{is_named, new_pool}
use Rattle.lb_servers.specs.Ranks.{StandAt}
use Rattle.lb_servers.proofs.AreBackends.{pool_pushed}
use Rattle.lb_servers.proofs.park.Park.add_pool.Goals as goal

pub invariant_of-self-2 : goal.invariant_of-self-2
invariant_of-self-2 c =
    let pushed : c.push.new.pools.items ≡ c.self.inside.pools.items ++ new_pool c.args.name ∷ [] = search rules in
    let more : c.push-2.new.self.items ≡ c.self.inside.ups.items ++ c.up_in-ups.result ∷ [] = search rules in
    let at : c.len-at.result ≡ length c.self.inside.pools.items = search rules in
    pool_pushed c.args.name _ _ c.self.inside.servers.items c.self.inside.pools.items c.push.new.pools.items c.self.inside.ranks c.self.inside.ups.items c.push-2.new.self.items c.up_in-ups.result pushed more
    (subst (λ (k : _). StandAt c.self.inside.servers.items c.up_in-ups.result (up_servers (record { 0 = k }) c.self.inside.servers.items)) at
    (subst (λ (ls : List Loaded). StandAt ls c.up_in-ups.result (up_servers (record { 0 = c.len-at.result }) ls)) c.as_slice-2.ensures.value c.up_in-ups.ensures))
    (ap (list_any (is_named c.args.name)) (sym c.as_slice.ensures.value) ∙ sym c.is_taken.ensures ∙ c.if-is_taken.false) (omega (arith, c.len-at.ensures, c.if-at-ge-MAX_POOLS.false, c.self.inside.pools.ok.0)) c.self.invariant

use Rattle.std.proofs.Common.{refl, ap, ◌∙◌}
use Rattle.lb_servers.specs.Server.{change_server, with_one_less}
use Rattle.lb_servers.proofs.AreBackends.{servers_back}
use Rattle.lb_servers.proofs.park.Park.ended.Goals as goal

pub invariant_of-self : goal.invariant_of-self
invariant_of-self c =
    servers_back c.args.id with_one_less (λ l. refl) (λ l. refl) (λ pool l. refl) c.self.inside.servers c.ended.new.servers _ _ c.self.inside.pools.items c.self.inside.ranks c.self.inside.ups.items (c.ended.ensures ∙ ap (change_server c.args.id with_one_less) c.as_mut_slice.ensures.value) c.self.invariant

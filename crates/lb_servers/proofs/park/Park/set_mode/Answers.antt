use Rattle.std.proofs.Common.{◌≡◌, List, get_or, refl, sym, ap, subst, ◌∙◌}
use Rattle.std.specs.List.{position}
use Rattle.std.proofs.lemmas.List.Quantifiers.{position-Some}
use Rattle.lb_servers.specs.declared.server.Loaded.{Loaded}
use Rattle.lb_servers.specs.Server.{IsPlaceOf, change_server, is_server, with_mode}
use Rattle.lb_servers.proofs.AreBackends.{pools_there, servers_made, still_ranked}
use Rattle.lb_servers.proofs.park.Park.set_mode.Goals as goal

pub remake_of-requires-clause-there : goal.remake_of-requires-clause-there
remake_of-requires-clause-there c =
    let i = c.self.inside in
    let placed : IsPlaceOf c.args.id c.self.inside.servers.items c.in-Some.at = (c.self.invariant.1.servers.order, ap (position (is_server c.args.id)) (sym c.as_slice.ensures.value) ∙ sym c.place_of.ensures.place ∙ c.in-Some.is) in
    let stood : c.as_slice-3.result.now ≡ (get_or c.self.inside.servers.items c.in-Some.at c.index.result.now).server.pools = c.as_slice-3.ensures ∙ c.copy-pools.ensures ∙ ap (λ (l : Loaded). l.server.pools) c.index.ensures in
    let within = position-Some (is_server c.args.id) i.servers.items c.in-Some.at c.index.result.now placed.1 in
    pools_there _ _ i.servers.items i.pools.items i.ranks i.ups.items c.as_mut_slice-2.result.now c.in-Some.at c.index.result.now c.as_slice-3.result.now c.self.invariant within.0 stood c.as_mut_slice-2.ensures.value

pub remake_of-requires-clause-ranked : goal.remake_of-requires-clause-ranked
remake_of-requires-clause-ranked c =
    let placed : IsPlaceOf c.args.id c.self.inside.servers.items c.in-Some.at = (c.self.invariant.1.servers.order, ap (position (is_server c.args.id)) (sym c.as_slice.ensures.value) ∙ sym c.place_of.ensures.place ∙ c.in-Some.is) in
    still_ranked c.args.id (with_mode c.args.mode) (λ l. refl) c.self.inside.servers c.set_mode.new.servers c.as_slice-2.result.now c.self.inside.ranks
    (c.set_mode.ensures c.args.id (subst (λ (ls : List Loaded). IsPlaceOf c.args.id ls c.in-Some.at) (sym c.as_mut_slice.ensures.value) placed) ∙ ap (change_server c.args.id (with_mode c.args.mode)) c.as_mut_slice.ensures.value) c.as_slice-2.ensures.value c.self.invariant.0.ranked

pub invariant_of-self : goal.invariant_of-self
invariant_of-self c =
    let placed : IsPlaceOf c.args.id c.self.inside.servers.items c.in-Some.at = (c.self.invariant.1.servers.order, ap (position (is_server c.args.id)) (sym c.as_slice.ensures.value) ∙ sym c.place_of.ensures.place ∙ c.in-Some.is) in
    let stood : c.as_slice-3.result.now ≡ (get_or c.self.inside.servers.items c.in-Some.at c.index.result.now).server.pools = c.as_slice-3.ensures ∙ c.copy-pools.ensures ∙ ap (λ (l : Loaded). l.server.pools) c.index.ensures in
    servers_made c.args.id (with_mode c.args.mode) (λ l. refl) (λ l. refl) c.self.inside.servers c.set_mode.new.servers c.as_slice-2.result.now _ _ c.self.inside.pools.items c.self.inside.ranks c.self.inside.ups c.as_mut_slice-2.result.now c.remake_of.new.ups c.in-Some.at c.index.result.now c.as_slice-3.result.now placed stood
    (c.set_mode.ensures c.args.id (subst (λ (ls : List Loaded). IsPlaceOf c.args.id ls c.in-Some.at) (sym c.as_mut_slice.ensures.value) placed) ∙ ap (change_server c.args.id (with_mode c.args.mode)) c.as_mut_slice.ensures.value) c.as_slice-2.ensures.value c.as_mut_slice-2.ensures.value c.remake_of.ensures.each c.remake_of.ensures.up c.self.invariant

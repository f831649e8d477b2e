use Rattle.std.proofs.Common.{◌≡◌, ◌+◌, true, Ok, List, get_or, refl, sym, ap, subst, ◌∙◌}
use Rattle.std.specs.Prelude.{is_some}
use Rattle.std.specs.Cmp.{booleans_Decides}
use Rattle.std.specs.List.{list_any, position}
use Rattle.std.proofs.lemmas.List.Quantifiers.{position-Some}
use Rattle.lb_servers.specs.declared.server.Loaded.{Loaded}
use Rattle.lb_servers.specs.Park.{Backends, changed_server}
use Rattle.lb_servers.specs.Server.{IsPlaceOf, change_server, is_server, marked}
use Rattle.lb_servers.proofs.AreBackends.{mark_stays, pools_there, servers_made, still_ranked}
use Rattle.lb_servers.proofs.ByNumber.{same_mark}
use Rattle.lb_servers.proofs.park.Park.mark.Goals as goal

pub remake_of-requires-clause-there : goal.remake_of-requires-clause-there
remake_of-requires-clause-there c =
    let i = c.self.inside in
    let placed : IsPlaceOf c.args.id c.self.inside.servers.items c.in-Some.at = (c.self.invariant.1.servers.order, ap (position (is_server c.args.id)) (sym c.as_slice.ensures.value) ∙ sym c.place_of.ensures.place ∙ c.in-Some.is) in
    let stood : c.as_slice-3.result.now ≡ (get_or c.self.inside.servers.items c.in-Some.at c.index-2.result.now).server.pools = c.as_slice-3.ensures ∙ c.copy-pools.ensures ∙ ap (λ (l : Loaded). l.server.pools) c.index-2.ensures in
    let within = position-Some (is_server c.args.id) i.servers.items c.in-Some.at c.index-2.result.now placed.1 in
    pools_there _ _ i.servers.items i.pools.items i.ranks i.ups.items c.as_mut_slice-2.result.now c.in-Some.at c.index-2.result.now c.as_slice-3.result.now c.self.invariant within.0 stood c.as_mut_slice-2.ensures.value

pub remake_of-requires-clause-ranked : goal.remake_of-requires-clause-ranked
remake_of-requires-clause-ranked c =
    let placed : IsPlaceOf c.args.id c.self.inside.servers.items c.in-Some.at = (c.self.invariant.1.servers.order, ap (position (is_server c.args.id)) (sym c.as_slice.ensures.value) ∙ sym c.place_of.ensures.place ∙ c.in-Some.is) in
    still_ranked c.args.id (marked c.args.up) (λ l. refl) c.self.inside.servers c.mark.new.servers c.as_slice-2.result.now c.self.inside.ranks
    (c.mark.ensures c.args.id (subst (λ (ls : List Loaded). IsPlaceOf c.args.id ls c.in-Some.at) (sym c.as_mut_slice.ensures.value) placed) ∙ ap (change_server c.args.id (marked c.args.up)) c.as_mut_slice.ensures.value) c.as_slice-2.ensures.value c.self.invariant.0.ranked

pub invariant_of-self : goal.invariant_of-self
invariant_of-self c =
    let placed : IsPlaceOf c.args.id c.self.inside.servers.items c.in-Some.at = (c.self.invariant.1.servers.order, ap (position (is_server c.args.id)) (sym c.as_slice.ensures.value) ∙ sym c.place_of.ensures.place ∙ c.in-Some.is) in
    let stood : c.as_slice-3.result.now ≡ (get_or c.self.inside.servers.items c.in-Some.at c.index-2.result.now).server.pools = c.as_slice-3.ensures ∙ c.copy-pools.ensures ∙ ap (λ (l : Loaded). l.server.pools) c.index-2.ensures in
    servers_made c.args.id (marked c.args.up) (λ l. refl) (λ l. refl) c.self.inside.servers c.mark.new.servers c.as_slice-2.result.now _ _ c.self.inside.pools.items c.self.inside.ranks c.self.inside.ups c.as_mut_slice-2.result.now c.remake_of.new.ups c.in-Some.at c.index-2.result.now c.as_slice-3.result.now placed stood
    (c.mark.ensures c.args.id (subst (λ (ls : List Loaded). IsPlaceOf c.args.id ls c.in-Some.at) (sym c.as_mut_slice.ensures.value) placed) ∙ ap (change_server c.args.id (marked c.args.up)) c.as_mut_slice.ensures.value) c.as_slice-2.ensures.value c.as_mut_slice-2.ensures.value c.remake_of.ensures.each c.remake_of.ensures.up c.self.invariant

pub returns-then-index-up : goal.returns-then-index-up
returns-then-index-up c =
    let i = c.self.inside in
    let placed : IsPlaceOf c.args.id i.servers.items c.in-Some.at = (c.self.invariant.1.servers.order, ap (position (is_server c.args.id)) (sym c.as_slice.ensures.value) ∙ sym c.place_of.ensures.place ∙ c.in-Some.is) in
    let here : (get_or i.servers.items c.in-Some.at c.index.result.now).server.marked_up ≡ c.args.up = sym (ap (λ (l : Loaded). l.server.marked_up) c.index.ensures) ∙ (booleans_Decides c.index.result.now.server.marked_up c.args.up).0 c.if-index-up.true in
    let there : list_any (is_server c.args.id) i.servers.items ≡ true = ap (list_any (is_server c.args.id)) (sym c.as_slice.ensures.value) ∙ sym c.place_of.ensures.there ∙ ap is_some c.in-Some.is in
    subst (λ (b : Backends). (b, Ok tt) ≡ changed_server (marked c.args.up) b c.args.id) c.self.view_is
    (mark_stays (record { next = i.last_server + 1; next_cache = i.last_cache + 1; servers = i.servers.items; pools = i.pools.items }) c.args.id c.args.up there (same_mark c.args.id c.args.up i.servers.items c.in-Some.at c.index.result.now placed here))

use Rattle.std.proofs.Common.{◌≡◌, ◌<◌, List, ℕ, Some, length, option_map, refl, sym, ap, subst, ◌∙◌, arith}
use Rattle.std.specs.Prelude.{slice_get}
use Rattle.std.proofs.lemmas.Option.{slice_get_read}
use Rattle.lb_servers.specs.declared.server.Loaded.{Loaded}
use Rattle.lb_servers.specs.Park.{Backends}
use Rattle.lb_servers.specs.Pick.{chosen, up_servers}
use Rattle.lb_servers.specs.Ranks.{StandAt}
use Rattle.lb_servers.proofs.park.Park.pick_by.Goals as goal

pub returns : goal.returns
returns c =
    let i = c.self.inside in
    let within : c.args.pool.0 < length i.ups.items = omega (arith, c.requires, ap (λ (b : Backends). length b.pools) c.self.view_is, c.self.invariant.0.ups_each) in
    let there : slice_get i.ups.items c.from.result ≡ Some c.index.result.now = slice_get_read i.ups.items (length i.ups.items) c.from.result c.index.result.now refl (omega (arith, within, c.from.ensures)) c.index.ensures in
    let here : slice_get i.ups.items c.args.pool.0 ≡ Some c.index.result.now = subst (λ (k : ℕ). slice_get i.ups.items k ≡ Some c.index.result.now) c.from.ensures there in
    let stand : StandAt i.servers.items c.as_slice-ups.result.now (up_servers c.args.pool i.servers.items) = subst (λ (ps : List ℕ). StandAt i.servers.items ps (up_servers c.args.pool i.servers.items)) (sym c.as_slice-ups.ensures) (c.self.invariant.0.up c.args.pool.0 c.index.result.now here) in
    c.pick.ensures (up_servers c.args.pool i.servers.items) (subst (λ (ls : List Loaded). StandAt ls c.as_slice-ups.result.now (up_servers c.args.pool i.servers.items)) (sym c.as_slice.ensures.value) stand)
    ∙ ap (λ (b : Backends). option_map (λ (l : Loaded). l.server.id) (chosen c.args.policy c.args.turn (up_servers c.args.pool b.servers))) c.self.view_is

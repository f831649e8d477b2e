use Rattle.std.proofs.Common.{refl, subst, sym}
use Rattle.lb_loops_connections.specs.declared.connection.Connection.{Connection}
use Rattle.lb_loops_tcp.proofs.Going.{swaps_by}
use Rattle.lb_loops_tcp.proofs.Sweeping.{sweeps_back}
use Rattle.lb_loops_tcp.proofs.links.Links.sweep_one.Goals as goal
use Rattle.lb_loops_tcp.specs.Links.{Net}
use Rattle.lb_loops_tcp.specs.Turn.{Sweeps}

pub returns : goal.returns
returns g c = λ first one.
    let old : Net = record { told = g.S.Streams.told c.self.inside.sockets; table = c.self.inside.table; device = c.self.inside.device } in
    let x : Connection = c.in-Some-take.connection in
    let new : Net = record { told = g.S.Streams.told c.self.inside.sockets; table = c.put.new.self; device = c.self.inside.device } in
    let swap = swaps_by c.in-Some.number old.table c.take.new.self c.look_again.new.self new.table x x c.look_again.ensures.same c.in-Some-take.ensures.here c.in-Some-take.ensures.number.0 c.take.ensures.others
    c.in-Some-take.ensures.clients c.take.ensures.same.0 c.take.ensures.same.1 c.put.ensures.here c.put.ensures.others c.put.ensures.clients c.put.ensures.same.0 c.put.ensures.same.1 refl refl in
    sweeps_back c.args.now c.in-Some.number first old new x (subst (λ (z : Net). Sweeps c.args.now first z) (sym c.self.view_is) one) swap refl refl

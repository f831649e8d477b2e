use Rattle.std.proofs.Common.{refl, subst, ap}
use Rattle.lb_loops_connections.specs.declared.connection.Connection.{Connection}
use Rattle.lb_loops_tcp.proofs.Going.{goes_kept, swaps_by}
use Rattle.lb_loops_tcp.proofs.Settling.{done_back, settles_swap}
use Rattle.lb_loops_tcp.proofs.links.Links.follow_one.Goals as goal
use Rattle.lb_loops_tcp.specs.Goes.{Goes, Settles, none}
use Rattle.lb_loops_tcp.specs.Links.{Net}

pub returns-clause-goes : goal.returns-clause-goes
returns-clause-goes g c =
    let old : Net = record { told = g.S.Streams.told c.self.inside.sockets; table = c.self.inside.table; device = c.self.inside.device } in
    let x : Connection = c.in-Some-take.connection in
    let new : Net = record { told = g.S.Streams.told c.self.inside.sockets; table = c.put.new.self; device = c.self.inside.device } in
    let y : Connection = c.follow.new.self in
    let swap = swaps_by c.in-Some.number old.table c.take.new.self c.look_by.new.self new.table x y (c.look_by.ensures.same) c.in-Some-take.ensures.here c.in-Some-take.ensures.number.0 c.take.ensures.others c.in-Some-take.ensures.clients c.take.ensures.same.0 c.take.ensures.same.1
    c.put.ensures.here c.put.ensures.others c.put.ensures.clients c.put.ensures.same.0 c.put.ensures.same.1 (c.follow.ensures.rest.0) (c.follow.ensures.rest.1) in
    subst (λ (z : Net). Goes z new none none) c.self.view_is (goes_kept c.in-Some.number old new x y swap refl refl c.follow.ensures.rest.1 c.follow.ensures.rest.2 c.follow.ensures.rest.3 c.follow.ensures.rest.4)

pub returns-clause-settles : goal.returns-clause-settles
returns-clause-settles g c =
    let old : Net = record { told = g.S.Streams.told c.self.inside.sockets; table = c.self.inside.table; device = c.self.inside.device } in
    let x : Connection = c.in-Some-take.connection in
    let new : Net = record { told = g.S.Streams.told c.self.inside.sockets; table = c.put.new.self; device = c.self.inside.device } in
    let y : Connection = c.follow.new.self in
    let swap = swaps_by c.in-Some.number old.table c.take.new.self c.look_by.new.self new.table x y (c.look_by.ensures.same) c.in-Some-take.ensures.here c.in-Some-take.ensures.number.0 c.take.ensures.others c.in-Some-take.ensures.clients c.take.ensures.same.0 c.take.ensures.same.1
    c.put.ensures.here c.put.ensures.others c.put.ensures.clients c.put.ensures.same.0 c.put.ensures.same.1 (c.follow.ensures.rest.0) (c.follow.ensures.rest.1) in
    subst (λ (z : Net). Settles z new) c.self.view_is (settles_swap c.in-Some.number old new x y swap (done_back x y (ap (λ (w : Connection). w.is_ended) c.follow.ensures.until) (ap (λ (w : Connection). w.owed) c.follow.ensures.until) (ap (λ (w : Connection). w.outgoing) c.follow.ensures.until) (ap (λ (w : Connection). w.incoming) c.follow.ensures.until)))

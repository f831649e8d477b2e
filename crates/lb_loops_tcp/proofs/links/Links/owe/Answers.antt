use Rattle.std.proofs.Common.{refl, subst, ◌≡◌}
use Rattle.lb_loops_connections.specs.declared.connection.Connection.{Connection}
use Rattle.lb_loops_connections.specs.Table.{at}
use Rattle.lb_loops_tcp.proofs.Going.{goes_kept, swaps}
use Rattle.lb_loops_tcp.proofs.links.Links.owe.Goals as goal
use Rattle.lb_loops_tcp.specs.Goes.{Goes, none}
use Rattle.lb_loops_tcp.specs.Links.{Net}

pub returns-clause-goes : goal.returns-clause-goes
returns-clause-goes g c =
    let old : Net = record { told = g.S.Streams.told c.self.inside.sockets; table = c.self.inside.table; device = c.self.inside.device } in
    let new : Net = record { told = g.S.Streams.told c.self.inside.sockets; table = c.put.new.self; device = c.self.inside.device } in
    let x : Connection = c.in-Some.connection in
    let y : Connection = record x { owed = c.saturating_add.result } in
    let s = swaps c.args.number old.table c.take.new.self new.table x y c.in-Some.ensures.here c.in-Some.ensures.number.0 c.take.ensures.others c.in-Some.ensures.clients c.take.ensures.same.0 c.take.ensures.same.1
    c.put.ensures.here c.put.ensures.others c.put.ensures.clients c.put.ensures.same.0 c.put.ensures.same.1 refl refl in
    subst (λ (z : Net). Goes z new none none) c.self.view_is (goes_kept c.args.number old new x y s refl refl refl refl refl refl)

pub returns-clause-others : goal.returns-clause-others
returns-clause-others g c =
    let old : Net = record { told = g.S.Streams.told c.self.inside.sockets; table = c.self.inside.table; device = c.self.inside.device } in
    let new : Net = record { told = g.S.Streams.told c.self.inside.sockets; table = c.put.new.self; device = c.self.inside.device } in
    let x : Connection = c.in-Some.connection in
    let y : Connection = record x { owed = c.saturating_add.result } in
    let s = swaps c.args.number old.table c.take.new.self new.table x y c.in-Some.ensures.here c.in-Some.ensures.number.0 c.take.ensures.others c.in-Some.ensures.clients c.take.ensures.same.0 c.take.ensures.same.1
    c.put.ensures.here c.put.ensures.others c.put.ensures.clients c.put.ensures.same.0 c.put.ensures.same.1 refl refl in
    λ k apart. subst (λ (z : Net). at k new.table ≡ at k z.table) c.self.view_is (s.others k apart)

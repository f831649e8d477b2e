use Rattle.std.proofs.Common.{refl, subst, ◌≡◌}
use Rattle.lb_loops_connections.specs.declared.connection.Connection.{Connection}
use Rattle.lb_loops_connections.specs.Table.{at}
use Rattle.lb_loops_tcp.proofs.Going.{drops, goes_finished, goes_kept, swaps}
use Rattle.lb_loops_tcp.proofs.links.Links.see_to.Goals as goal
use Rattle.lb_loops_tcp.specs.Goes.{Goes, none}
use Rattle.lb_loops_tcp.specs.Links.{Net}

pub returns-then-is_finished-clause-goes : goal.returns-then-is_finished-clause-goes
returns-then-is_finished-clause-goes g c =
    let old : Net = record { told = g.S.Streams.told c.self.inside.sockets; table = c.self.inside.table; device = c.self.inside.device } in
    let x : Connection = c.in-Some.connection in
    let new : Net = record { told = g.S.Streams.told c.close.new.self; table = c.take.new.self; device = c.self.inside.device } in
    let drop = drops c.args.number old.table c.take.new.self x c.in-Some.ensures.here c.in-Some.ensures.number.1 c.take.ensures.gone c.take.ensures.others c.in-Some.ensures.clients c.take.ensures.same.0 c.take.ensures.same.1 in
    subst (λ (z : Net). Goes z new none none) c.self.view_is (goes_finished c.args.number old new x drop (c.is_finished.ensures.done c.if-is_finished.true).ended (c.is_finished.ensures.done c.if-is_finished.true).written (c.is_finished.ensures.done c.if-is_finished.true).none c.close.ensures.same refl)

pub returns-clause-goes : goal.returns-clause-goes
returns-clause-goes g c =
    let old : Net = record { told = g.S.Streams.told c.self.inside.sockets; table = c.self.inside.table; device = c.self.inside.device } in
    let x : Connection = c.in-Some.connection in
    let new : Net = record { told = g.S.Streams.told c.resume.new.sockets; table = c.put.new.self; device = c.self.inside.device } in
    let y : Connection = c.resume.new.connection in
    let swap = swaps c.args.number old.table c.take.new.self new.table x y c.in-Some.ensures.here c.in-Some.ensures.number.0 c.take.ensures.others c.in-Some.ensures.clients c.take.ensures.same.0 c.take.ensures.same.1
    c.put.ensures.here c.put.ensures.others c.put.ensures.clients c.put.ensures.same.0 c.put.ensures.same.1 (c.resume.ensures.rest.0) (c.resume.ensures.rest.1) in
    subst (λ (z : Net). Goes z new none none) c.self.view_is (goes_kept c.args.number old new x y swap c.resume.ensures.same refl c.resume.ensures.rest.1 c.resume.ensures.rest.2 c.resume.ensures.rest.3 c.resume.ensures.rest.4)

pub returns-then-is_finished-clause-others : goal.returns-then-is_finished-clause-others
returns-then-is_finished-clause-others g c =
    let old : Net = record { told = g.S.Streams.told c.self.inside.sockets; table = c.self.inside.table; device = c.self.inside.device } in
    let x : Connection = c.in-Some.connection in
    let new : Net = record { told = g.S.Streams.told c.close.new.self; table = c.take.new.self; device = c.self.inside.device } in
    let drop = drops c.args.number old.table c.take.new.self x c.in-Some.ensures.here c.in-Some.ensures.number.1 c.take.ensures.gone c.take.ensures.others c.in-Some.ensures.clients c.take.ensures.same.0 c.take.ensures.same.1 in
    λ k apart. subst (λ (z : Net). at k new.table ≡ at k z.table) c.self.view_is (drop.others k apart)

pub returns-clause-others : goal.returns-clause-others
returns-clause-others g c =
    let old : Net = record { told = g.S.Streams.told c.self.inside.sockets; table = c.self.inside.table; device = c.self.inside.device } in
    let x : Connection = c.in-Some.connection in
    let new : Net = record { told = g.S.Streams.told c.resume.new.sockets; table = c.put.new.self; device = c.self.inside.device } in
    let y : Connection = c.resume.new.connection in
    let swap = swaps c.args.number old.table c.take.new.self new.table x y c.in-Some.ensures.here c.in-Some.ensures.number.0 c.take.ensures.others c.in-Some.ensures.clients c.take.ensures.same.0 c.take.ensures.same.1
    c.put.ensures.here c.put.ensures.others c.put.ensures.clients c.put.ensures.same.0 c.put.ensures.same.1 (c.resume.ensures.rest.0) (c.resume.ensures.rest.1) in
    λ k apart. subst (λ (z : Net). at k new.table ≡ at k z.table) c.self.view_is (swap.others k apart)

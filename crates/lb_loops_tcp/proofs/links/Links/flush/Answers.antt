use Rattle.std.proofs.Common.{rules, ◌≡◌, false, refl, sym, ap, ◌∙◌, subst}
use Rattle.lb_loops_connections.specs.Table.{Table, at}
use Rattle.lb_loops_connections.specs.declared.connection.Connection.{Connection}
use Rattle.lb_loops_tcp.proofs.Going.{Drops, drops, goes_kept, goes_refused, goes_written, swaps}
use Rattle.lb_loops_tcp.proofs.links.Links.flush.Goals as goal
use Rattle.lb_loops_tcp.specs.Goes.{Goes, none}
use Rattle.lb_loops_tcp.specs.Links.{Net}

pub returns-then-len-eq0-clause-goes : goal.returns-then-len-eq0-clause-goes
returns-then-len-eq0-clause-goes g c =
    let old : Net = record { told = g.S.Streams.told c.self.inside.sockets; table = c.self.inside.table; device = c.self.inside.device } in
    let x : Connection = c.in-Some.connection in
    let new : Net = record { told = g.S.Streams.told c.self.inside.sockets; table = c.put.new.self; device = c.self.inside.device } in
    let y : Connection = record x { is_touched = false } in
    let swap = swaps c.args.number old.table c.take.new.self new.table x y c.in-Some.ensures.here c.in-Some.ensures.number.0 c.take.ensures.others c.in-Some.ensures.clients c.take.ensures.same.0 c.take.ensures.same.1
    c.put.ensures.here c.put.ensures.others c.put.ensures.clients c.put.ensures.same.0 c.put.ensures.same.1 (refl) (refl) in
    subst (λ (z : Net). Goes z new none none) c.self.view_is (goes_kept c.args.number old new x y swap refl refl refl refl refl refl)

pub returns-in-Ok-clause-goes : goal.returns-in-Ok-clause-goes
returns-in-Ok-clause-goes g c =
    let old : Net = record { told = g.S.Streams.told c.self.inside.sockets; table = c.self.inside.table; device = c.self.inside.device } in
    let x : Connection = c.in-Some.connection in
    let new : Net = record { told = g.S.Streams.told c.write_to.new.self; table = c.put-in-Ok.new.self; device = c.self.inside.device } in
    let y : Connection = record x { outgoing = c.advance.new.self; is_touched = false } in
    let swap = swaps c.args.number old.table c.take.new.self new.table x y c.in-Some.ensures.here c.in-Some.ensures.number.0 c.take.ensures.others c.in-Some.ensures.clients c.take.ensures.same.0 c.take.ensures.same.1
    c.put-in-Ok.ensures.here c.put-in-Ok.ensures.others c.put-in-Ok.ensures.clients c.put-in-Ok.ensures.same.0 c.put-in-Ok.ensures.same.1 (refl) (refl) in
    subst (λ (z : Net). Goes z new none none) c.self.view_is (goes_written c.args.number c.in-Ok.written old new x y swap (search rules) refl refl refl (search rules) refl)

pub returns-in-Err-clause-goes : goal.returns-in-Err-clause-goes
returns-in-Err-clause-goes g c =
    let old : Net = record { told = g.S.Streams.told c.self.inside.sockets; table = c.self.inside.table; device = c.self.inside.device } in
    let x : Connection = c.in-Some.connection in
    let new : Net = c.note.new.self in
    let drop = drops c.args.number old.table c.take.new.self x c.in-Some.ensures.here c.in-Some.ensures.number.1 c.take.ensures.gone c.take.ensures.others c.in-Some.ensures.clients c.take.ensures.same.0 c.take.ensures.same.1 in
    let table : new.table ≡ c.take.new.self = ap (λ (z : Net). z.table) c.note.ensures in
    let took = c.in-Err.ensures.took in
    subst (λ (z : Net). Goes z new none none) c.self.view_is (goes_refused c.args.number old new x (g.S.Streams.told c.write_to.new.self) c.as_slice.result.now c.in-Err.why (subst (λ (t : Table). Drops c.args.number old.table t x) (sym table) drop) took (ap (λ (z : Net). z.told) c.note.ensures ∙ c.close.ensures.same) (ap (λ (z : Net). z.device) c.note.ensures))

pub returns-then-len-eq0-clause-others : goal.returns-then-len-eq0-clause-others
returns-then-len-eq0-clause-others g c =
    let old : Net = record { told = g.S.Streams.told c.self.inside.sockets; table = c.self.inside.table; device = c.self.inside.device } in
    let x : Connection = c.in-Some.connection in
    let new : Net = record { told = g.S.Streams.told c.self.inside.sockets; table = c.put.new.self; device = c.self.inside.device } in
    let y : Connection = record x { is_touched = false } in
    let swap = swaps c.args.number old.table c.take.new.self new.table x y c.in-Some.ensures.here c.in-Some.ensures.number.0 c.take.ensures.others c.in-Some.ensures.clients c.take.ensures.same.0 c.take.ensures.same.1
    c.put.ensures.here c.put.ensures.others c.put.ensures.clients c.put.ensures.same.0 c.put.ensures.same.1 (refl) (refl) in
    λ k apart. subst (λ (z : Net). at k new.table ≡ at k z.table) c.self.view_is (swap.others k apart)

pub returns-in-Ok-clause-others : goal.returns-in-Ok-clause-others
returns-in-Ok-clause-others g c =
    let old : Net = record { told = g.S.Streams.told c.self.inside.sockets; table = c.self.inside.table; device = c.self.inside.device } in
    let x : Connection = c.in-Some.connection in
    let new : Net = record { told = g.S.Streams.told c.write_to.new.self; table = c.put-in-Ok.new.self; device = c.self.inside.device } in
    let y : Connection = record x { outgoing = c.advance.new.self; is_touched = false } in
    let swap = swaps c.args.number old.table c.take.new.self new.table x y c.in-Some.ensures.here c.in-Some.ensures.number.0 c.take.ensures.others c.in-Some.ensures.clients c.take.ensures.same.0 c.take.ensures.same.1
    c.put-in-Ok.ensures.here c.put-in-Ok.ensures.others c.put-in-Ok.ensures.clients c.put-in-Ok.ensures.same.0 c.put-in-Ok.ensures.same.1 (refl) (refl) in
    λ k apart. subst (λ (z : Net). at k new.table ≡ at k z.table) c.self.view_is (swap.others k apart)

pub returns-in-Err-clause-others : goal.returns-in-Err-clause-others
returns-in-Err-clause-others g c =
    let old : Net = record { told = g.S.Streams.told c.self.inside.sockets; table = c.self.inside.table; device = c.self.inside.device } in
    let x : Connection = c.in-Some.connection in
    let new : Net = c.note.new.self in
    let drop = drops c.args.number old.table c.take.new.self x c.in-Some.ensures.here c.in-Some.ensures.number.1 c.take.ensures.gone c.take.ensures.others c.in-Some.ensures.clients c.take.ensures.same.0 c.take.ensures.same.1 in
    let table : new.table ≡ c.take.new.self = ap (λ (z : Net). z.table) c.note.ensures in
    λ k apart. subst (λ (z : Net). at k new.table ≡ at k z.table) c.self.view_is (ap (at k) table ∙ drop.others k apart)

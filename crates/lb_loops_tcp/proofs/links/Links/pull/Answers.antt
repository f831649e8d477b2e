use Rattle.std.proofs.Common.{◌≡◌, ◌+◌, true, arith, refl, sym, ap, ◌∙◌, subst}
use Rattle.lb_loops_connections.specs.Table.{Table, is_client, at}
use Rattle.lb_loops_connections.specs.declared.connection.Connection.{Connection}
use Rattle.lb_loops_io.specs.Moves.{FaultyAt, Traffic, read_once}
use Rattle.lb_loops_io.specs.declared.traffic.Peer.{Peer}
use Rattle.lb_loops_tcp.proofs.Going.{Drops, drops, drops_for_memory, goes_asked, goes_failed_read, goes_heard, goes_kept, goes_lacking, goes_left, goes_looked, goes_for_memory_read, rose_for_memory, swaps, swaps_by}
use Rattle.lb_loops_tcp.proofs.links.Links.pull.Goals as goal
use Rattle.lb_loops_tcp.specs.Goes.{Goes, none}
use Rattle.lb_loops_tcp.specs.Links.{Net}

pub returns-then-not-may_be_read-clause-goes : goal.returns-then-not-may_be_read-clause-goes
returns-then-not-may_be_read-clause-goes g c =
    let old : Net = record { told = g.S.Streams.told c.self.inside.sockets; table = c.self.inside.table; device = c.self.inside.device } in
    let x : Connection = c.in-Some.connection in
    let new : Net = record { told = g.S.Streams.told c.self.inside.sockets; table = c.put.new.self; device = c.self.inside.device } in
    let y : Connection = record x { is_passed_over = true } in
    let swap = swaps c.args.number old.table c.take.new.self new.table x y c.in-Some.ensures.here c.in-Some.ensures.number.0 c.take.ensures.others c.in-Some.ensures.clients c.take.ensures.same.0 c.take.ensures.same.1
    c.put.ensures.here c.put.ensures.others c.put.ensures.clients c.put.ensures.same.0 c.put.ensures.same.1 (refl) (refl) in
    subst (λ (z : Net). Goes z new none none) c.self.view_is (goes_kept c.args.number old new x y swap refl refl refl refl refl refl)

pub returns-in-Ok-clause-goes : goal.returns-in-Ok-clause-goes
returns-in-Ok-clause-goes g c =
    let old : Net = record { told = g.S.Streams.told c.self.inside.sockets; table = c.self.inside.table; device = c.self.inside.device } in
    let x : Connection = c.in-Some.connection in
    let new : Net = record { told = g.S.Streams.told c.read_from.new.self; table = c.put-in-Ok.new.self; device = c.self.inside.device } in
    let y : Connection = c.hear.new.connection in
    let swap = swaps_by c.args.number old.table c.take.new.self c.hear.new.self new.table x y (c.hear.ensures.same) c.in-Some.ensures.here c.in-Some.ensures.number.0 c.take.ensures.others c.in-Some.ensures.clients c.take.ensures.same.0 c.take.ensures.same.1
    c.put-in-Ok.ensures.here c.put-in-Ok.ensures.others c.put-in-Ok.ensures.clients c.put-in-Ok.ensures.same.0 c.put-in-Ok.ensures.same.1 (c.hear.ensures.rest.0) (c.hear.ensures.rest.1) in
    let told = rw c.in-Ok-Piece.field-0-is at c.in-Ok-Piece.ensures.gave in
    subst (λ (z : Net). Goes z new none none) c.self.view_is (goes_heard c.args.number old new x y c.in-Ok-Piece.octets swap told refl c.hear.ensures.rest.1 c.in-Ok.ensures.heard c.hear.ensures.rest.2 c.hear.ensures.rest.3)

pub returns-in-Err-hear-clause-goes : goal.returns-in-Err-hear-clause-goes
returns-in-Err-hear-clause-goes g c =
    let old : Net = record { told = g.S.Streams.told c.self.inside.sockets; table = c.self.inside.table; device = c.self.inside.device } in
    let x : Connection = c.in-Some.connection in
    let new : Net = record { told = g.S.Streams.told c.close.new.self; table = c.lacks.new.self; device = c.self.inside.device } in
    let gone : Drops c.args.number old.table c.hear.new.self x = subst (λ (t : Table). Drops c.args.number old.table t x) (sym (c.hear.ensures.same)) (drops c.args.number old.table c.take.new.self x c.in-Some.ensures.here c.in-Some.ensures.number.1 c.take.ensures.gone c.take.ensures.others c.in-Some.ensures.clients c.take.ensures.same.0 c.take.ensures.same.1) in
    let drop = drops_for_memory c.args.number old.table c.hear.new.self new.table x gone c.lacks.ensures in
    let rose = rose_for_memory c.args.number old.table c.hear.new.self new.table x gone c.lacks.ensures in
    let told = rw c.in-Ok-Piece.field-0-is at c.in-Ok-Piece.ensures.gave in
    subst (λ (z : Net). Goes z new none none) c.self.view_is (goes_for_memory_read c.args.number old new x c.in-Ok-Piece.octets drop rose (c.close.ensures.same ∙ told) refl)

pub returns-in-Ok-Nothing-clause-goes : goal.returns-in-Ok-Nothing-clause-goes
returns-in-Ok-Nothing-clause-goes g c =
    let old : Net = record { told = g.S.Streams.told c.self.inside.sockets; table = c.self.inside.table; device = c.self.inside.device } in
    let x : Connection = c.in-Some.connection in
    let new : Net = record { told = g.S.Streams.told c.read_from.new.self; table = c.put-in-Ok-Nothing.new.self; device = c.self.inside.device } in
    let y : Connection = x in
    let swap = swaps c.args.number old.table c.take.new.self new.table x y c.in-Some.ensures.here c.in-Some.ensures.number.0 c.take.ensures.others c.in-Some.ensures.clients c.take.ensures.same.0 c.take.ensures.same.1
    c.put-in-Ok-Nothing.ensures.here c.put-in-Ok-Nothing.ensures.others c.put-in-Ok-Nothing.ensures.clients c.put-in-Ok-Nothing.ensures.same.0 c.put-in-Ok-Nothing.ensures.same.1 (refl) (refl) in
    let told = rw c.in-Ok-Nothing.field-0-is at c.in-Ok-Nothing.ensures.gave in
    subst (λ (z : Net). Goes z new none none) c.self.view_is (goes_looked c.args.number (old.told.reads + 1) old new x y swap told (omega arith) refl refl refl refl refl)

pub returns-in-Server-clause-goes : goal.returns-in-Server-clause-goes
returns-in-Server-clause-goes g c =
    let old : Net = record { told = g.S.Streams.told c.self.inside.sockets; table = c.self.inside.table; device = c.self.inside.device } in
    let x : Connection = c.in-Some.connection in
    let new : Net = record { told = g.S.Streams.told c.close-in-Server.new.self; table = c.take.new.self; device = c.self.inside.device } in
    let drop = drops c.args.number old.table c.take.new.self x c.in-Some.ensures.here c.in-Some.ensures.number.1 c.take.ensures.gone c.take.ensures.others c.in-Some.ensures.clients c.take.ensures.same.0 c.take.ensures.same.1 in
    let told = rw c.in-Ok-Ended.field-0-is at c.in-Ok-Ended.ensures.gave in
    subst (λ (z : Net). Goes z new none none) c.self.view_is (goes_left c.args.number old new x drop (ap (λ (p : Peer). is_client p) c.in-Server.is) (c.close-in-Server.ensures.same ∙ told) refl)

pub returns-in-Client-clause-goes : goal.returns-in-Client-clause-goes
returns-in-Client-clause-goes g c =
    let old : Net = record { told = g.S.Streams.told c.self.inside.sockets; table = c.self.inside.table; device = c.self.inside.device } in
    let x : Connection = c.in-Some.connection in
    let new : Net = record { told = g.S.Streams.told c.read_from.new.self; table = c.put-in-Client.new.self; device = c.self.inside.device } in
    let y : Connection = c.end.new.self in
    let swap = swaps_by c.args.number old.table c.take.new.self c.look_by.new.self new.table x y (c.look_by.ensures.same) c.in-Some.ensures.here c.in-Some.ensures.number.0 c.take.ensures.others c.in-Some.ensures.clients c.take.ensures.same.0 c.take.ensures.same.1
    c.put-in-Client.ensures.here c.put-in-Client.ensures.others c.put-in-Client.ensures.clients c.put-in-Client.ensures.same.0 c.put-in-Client.ensures.same.1 (c.end.ensures.rest.0) (c.end.ensures.rest.1) in
    let told = rw c.in-Ok-Ended.field-0-is at c.in-Ok-Ended.ensures.gave in
    subst (λ (z : Net). Goes z new none none) c.self.view_is (goes_asked c.args.number old new x y swap told refl c.end.ensures.rest.1 c.end.ensures.rest.2 c.end.ensures.rest.3)

pub returns-in-Ok-Failed-clause-goes : goal.returns-in-Ok-Failed-clause-goes
returns-in-Ok-Failed-clause-goes g c =
    let old : Net = record { told = g.S.Streams.told c.self.inside.sockets; table = c.self.inside.table; device = c.self.inside.device } in
    let x : Connection = c.in-Some.connection in
    let new : Net = c.fails.new.self in
    let drop = drops c.args.number old.table c.take.new.self x c.in-Some.ensures.here c.in-Some.ensures.number.1 c.take.ensures.gone c.take.ensures.others c.in-Some.ensures.clients c.take.ensures.same.0 c.take.ensures.same.1 in
    let told = rw c.in-Ok-Failed.field-0-is at c.in-Ok-Failed.ensures.gave in
    let faulty = subst (λ (t : Traffic). FaultyAt c.args.number (read_once old.told) t) (sym (ap (λ (z : Net). z.told) c.fails.ensures ∙ c.close-in-Ok-Failed.ensures.same)) told in
    let table : new.table ≡ c.take.new.self = ap (λ (z : Net). z.table) c.fails.ensures in
    subst (λ (z : Net). Goes z new none none) c.self.view_is (goes_failed_read c.args.number old new x (subst (λ (t : Table). Drops c.args.number old.table t x) (sym table) drop) faulty (ap (λ (z : Net). z.device) c.fails.ensures))

pub returns-in-Err-clause-goes : goal.returns-in-Err-clause-goes
returns-in-Err-clause-goes g c =
    let old : Net = record { told = g.S.Streams.told c.self.inside.sockets; table = c.self.inside.table; device = c.self.inside.device } in
    let x : Connection = c.in-Some.connection in
    let new : Net = record { told = g.S.Streams.told c.close-in-Err.new.self; table = c.lacks-in-Err.new.self; device = c.self.inside.device } in
    let gone : Drops c.args.number old.table c.take.new.self x = drops c.args.number old.table c.take.new.self x c.in-Some.ensures.here c.in-Some.ensures.number.1 c.take.ensures.gone c.take.ensures.others c.in-Some.ensures.clients c.take.ensures.same.0 c.take.ensures.same.1 in
    let drop = drops_for_memory c.args.number old.table c.take.new.self new.table x gone c.lacks-in-Err.ensures in
    let rose = rose_for_memory c.args.number old.table c.take.new.self new.table x gone c.lacks-in-Err.ensures in
    subst (λ (z : Net). Goes z new none none) c.self.view_is (goes_lacking c.args.number old new x drop rose (c.close-in-Err.ensures.same ∙ c.in-Err.ensures.gave) refl)

pub returns-then-not-may_be_read-clause-others : goal.returns-then-not-may_be_read-clause-others
returns-then-not-may_be_read-clause-others g c =
    let old : Net = record { told = g.S.Streams.told c.self.inside.sockets; table = c.self.inside.table; device = c.self.inside.device } in
    let x : Connection = c.in-Some.connection in
    let new : Net = record { told = g.S.Streams.told c.self.inside.sockets; table = c.put.new.self; device = c.self.inside.device } in
    let y : Connection = record x { is_passed_over = true } in
    let swap = swaps c.args.number old.table c.take.new.self new.table x y c.in-Some.ensures.here c.in-Some.ensures.number.0 c.take.ensures.others c.in-Some.ensures.clients c.take.ensures.same.0 c.take.ensures.same.1
    c.put.ensures.here c.put.ensures.others c.put.ensures.clients c.put.ensures.same.0 c.put.ensures.same.1 (refl) (refl) in
    λ k apart. subst (λ (z : Net). at k new.table ≡ at k z.table) c.self.view_is (swap.others k apart)

pub returns-in-Ok-clause-others : goal.returns-in-Ok-clause-others
returns-in-Ok-clause-others g c =
    let old : Net = record { told = g.S.Streams.told c.self.inside.sockets; table = c.self.inside.table; device = c.self.inside.device } in
    let x : Connection = c.in-Some.connection in
    let new : Net = record { told = g.S.Streams.told c.read_from.new.self; table = c.put-in-Ok.new.self; device = c.self.inside.device } in
    let y : Connection = c.hear.new.connection in
    let swap = swaps_by c.args.number old.table c.take.new.self c.hear.new.self new.table x y (c.hear.ensures.same) c.in-Some.ensures.here c.in-Some.ensures.number.0 c.take.ensures.others c.in-Some.ensures.clients c.take.ensures.same.0 c.take.ensures.same.1
    c.put-in-Ok.ensures.here c.put-in-Ok.ensures.others c.put-in-Ok.ensures.clients c.put-in-Ok.ensures.same.0 c.put-in-Ok.ensures.same.1 (c.hear.ensures.rest.0) (c.hear.ensures.rest.1) in
    λ k apart. subst (λ (z : Net). at k new.table ≡ at k z.table) c.self.view_is (swap.others k apart)

pub returns-in-Err-hear-clause-others : goal.returns-in-Err-hear-clause-others
returns-in-Err-hear-clause-others g c =
    let old : Net = record { told = g.S.Streams.told c.self.inside.sockets; table = c.self.inside.table; device = c.self.inside.device } in
    let x : Connection = c.in-Some.connection in
    let new : Net = record { told = g.S.Streams.told c.close.new.self; table = c.lacks.new.self; device = c.self.inside.device } in
    let gone : Drops c.args.number old.table c.hear.new.self x = subst (λ (t : Table). Drops c.args.number old.table t x) (sym (c.hear.ensures.same)) (drops c.args.number old.table c.take.new.self x c.in-Some.ensures.here c.in-Some.ensures.number.1 c.take.ensures.gone c.take.ensures.others c.in-Some.ensures.clients c.take.ensures.same.0 c.take.ensures.same.1) in
    let drop = drops_for_memory c.args.number old.table c.hear.new.self new.table x gone c.lacks.ensures in
    λ k apart. subst (λ (z : Net). at k new.table ≡ at k z.table) c.self.view_is (drop.others k apart)

pub returns-in-Ok-Nothing-clause-others : goal.returns-in-Ok-Nothing-clause-others
returns-in-Ok-Nothing-clause-others g c =
    let old : Net = record { told = g.S.Streams.told c.self.inside.sockets; table = c.self.inside.table; device = c.self.inside.device } in
    let x : Connection = c.in-Some.connection in
    let new : Net = record { told = g.S.Streams.told c.read_from.new.self; table = c.put-in-Ok-Nothing.new.self; device = c.self.inside.device } in
    let y : Connection = x in
    let swap = swaps c.args.number old.table c.take.new.self new.table x y c.in-Some.ensures.here c.in-Some.ensures.number.0 c.take.ensures.others c.in-Some.ensures.clients c.take.ensures.same.0 c.take.ensures.same.1
    c.put-in-Ok-Nothing.ensures.here c.put-in-Ok-Nothing.ensures.others c.put-in-Ok-Nothing.ensures.clients c.put-in-Ok-Nothing.ensures.same.0 c.put-in-Ok-Nothing.ensures.same.1 (refl) (refl) in
    λ k apart. subst (λ (z : Net). at k new.table ≡ at k z.table) c.self.view_is (swap.others k apart)

pub returns-in-Server-clause-others : goal.returns-in-Server-clause-others
returns-in-Server-clause-others g c =
    let old : Net = record { told = g.S.Streams.told c.self.inside.sockets; table = c.self.inside.table; device = c.self.inside.device } in
    let x : Connection = c.in-Some.connection in
    let new : Net = record { told = g.S.Streams.told c.close-in-Server.new.self; table = c.take.new.self; device = c.self.inside.device } in
    let drop = drops c.args.number old.table c.take.new.self x c.in-Some.ensures.here c.in-Some.ensures.number.1 c.take.ensures.gone c.take.ensures.others c.in-Some.ensures.clients c.take.ensures.same.0 c.take.ensures.same.1 in
    λ k apart. subst (λ (z : Net). at k new.table ≡ at k z.table) c.self.view_is (drop.others k apart)

pub returns-in-Client-clause-others : goal.returns-in-Client-clause-others
returns-in-Client-clause-others g c =
    let old : Net = record { told = g.S.Streams.told c.self.inside.sockets; table = c.self.inside.table; device = c.self.inside.device } in
    let x : Connection = c.in-Some.connection in
    let new : Net = record { told = g.S.Streams.told c.read_from.new.self; table = c.put-in-Client.new.self; device = c.self.inside.device } in
    let y : Connection = c.end.new.self in
    let swap = swaps_by c.args.number old.table c.take.new.self c.look_by.new.self new.table x y (c.look_by.ensures.same) c.in-Some.ensures.here c.in-Some.ensures.number.0 c.take.ensures.others c.in-Some.ensures.clients c.take.ensures.same.0 c.take.ensures.same.1
    c.put-in-Client.ensures.here c.put-in-Client.ensures.others c.put-in-Client.ensures.clients c.put-in-Client.ensures.same.0 c.put-in-Client.ensures.same.1 (c.end.ensures.rest.0) (c.end.ensures.rest.1) in
    λ k apart. subst (λ (z : Net). at k new.table ≡ at k z.table) c.self.view_is (swap.others k apart)

pub returns-in-Ok-Failed-clause-others : goal.returns-in-Ok-Failed-clause-others
returns-in-Ok-Failed-clause-others g c =
    let old : Net = record { told = g.S.Streams.told c.self.inside.sockets; table = c.self.inside.table; device = c.self.inside.device } in
    let x : Connection = c.in-Some.connection in
    let new : Net = c.fails.new.self in
    let drop = drops c.args.number old.table c.take.new.self x c.in-Some.ensures.here c.in-Some.ensures.number.1 c.take.ensures.gone c.take.ensures.others c.in-Some.ensures.clients c.take.ensures.same.0 c.take.ensures.same.1 in
    let table : new.table ≡ c.take.new.self = ap (λ (z : Net). z.table) c.fails.ensures in
    λ k apart. subst (λ (z : Net). at k new.table ≡ at k z.table) c.self.view_is (ap (at k) table ∙ drop.others k apart)

pub returns-in-Err-clause-others : goal.returns-in-Err-clause-others
returns-in-Err-clause-others g c =
    let old : Net = record { told = g.S.Streams.told c.self.inside.sockets; table = c.self.inside.table; device = c.self.inside.device } in
    let x : Connection = c.in-Some.connection in
    let new : Net = record { told = g.S.Streams.told c.close-in-Err.new.self; table = c.lacks-in-Err.new.self; device = c.self.inside.device } in
    let gone : Drops c.args.number old.table c.take.new.self x = drops c.args.number old.table c.take.new.self x c.in-Some.ensures.here c.in-Some.ensures.number.1 c.take.ensures.gone c.take.ensures.others c.in-Some.ensures.clients c.take.ensures.same.0 c.take.ensures.same.1 in
    let drop = drops_for_memory c.args.number old.table c.take.new.self new.table x gone c.lacks-in-Err.ensures in
    λ k apart. subst (λ (z : Net). at k new.table ≡ at k z.table) c.self.view_is (drop.others k apart)

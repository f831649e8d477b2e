use Rattle.std.proofs.Common.{◌≡◌, ℕ, Err, refl, sym, ap, ◌∙◌, subst}
use Rattle.lb_loops_connections.specs.Table.{Narrows, Table}
use Rattle.lb_loops_connections.specs.declared.connection.Connection.{Connection}
use Rattle.lb_loops_tcp.proofs.Opening.{Adds, adds, goes_begun, goes_undialed, undialed_lacks}
use Rattle.lb_loops_tcp.proofs.Pieces.{dialed_reads}
use Rattle.lb_loops_tcp.proofs.Settling.{settles_added, settles_narrow, settles_on, settles_table}
use Rattle.lb_loops_tcp.proofs.links.Links.dialed.Goals as goal
use Rattle.lb_loops_tcp.specs.Goes.{Goes, Lacks, Settles, none, reads_of}
use Rattle.lb_loops_tcp.specs.Links.{Net}

pub returns-in-Ok-clause-goes : goal.returns-in-Ok-clause-goes
returns-in-Ok-clause-goes g c =
    let old : Net = record { told = g.S.Streams.told c.self.inside.sockets; table = c.self.inside.table; device = c.self.inside.device } in
    let mid : Net = record { told = g.S.Streams.told c.self.inside.sockets; table = c.note.new.self; device = c.self.inside.device } in
    let new : Net = record { told = g.S.Streams.told c.dial.new.self; table = c.add.new.self; device = c.self.inside.device } in
    let x : Connection = c.new.result in
    let n : ℕ = c.in-Some-candidate.number in
    let narrow = subst (λ (t : Table). Narrows old.table t) (sym c.note.ensures.same) c.candidate.ensures.narrows in
    let number : n ≡ mid.table.next = c.in-Some-candidate.ensures.found.0 ∙ ap (λ (t : Table). t.next) (sym c.note.ensures.same) in
    let added : Adds n mid.table new.table x = adds n mid.table new.table x number c.new.ensures.who.0 c.add.ensures.here c.add.ensures.others c.add.ensures.clients c.add.ensures.next c.add.ensures.same in
    subst (λ (z : Net). Goes z new none none) c.self.view_is (goes_begun n old mid new x c.args.server c.args.lane c.args.at narrow refl refl added c.new.ensures.who.1 c.new.ensures.empty.0 c.new.ensures.empty.1 c.new.ensures.asks.0 c.in-Ok.ensures.dialed refl)

pub returns-in-Err : goal.returns-in-Err
returns-in-Err g c =
    let old : Net = record { told = g.S.Streams.told c.self.inside.sockets; table = c.self.inside.table; device = c.self.inside.device } in
    let mid : Net = record { told = g.S.Streams.told c.self.inside.sockets; table = c.note.new.self; device = c.self.inside.device } in
    let new : Net = c.note-in-Err.new.self in
    let narrow = subst (λ (t : Table). Narrows old.table t) (sym c.note.ensures.same) c.candidate.ensures.narrows in
    let goes = goes_undialed c.in-Some-candidate.number old mid new (g.S.Streams.told c.dial.new.self) c.args.at c.in-Err.why narrow refl refl (ap (λ (z : Net). z.table) c.note-in-Err.ensures) c.in-Err.ensures.dialed (ap (λ (z : Net). z.told) c.note-in-Err.ensures) (ap (λ (z : Net). z.device) c.note-in-Err.ensures) in
    let why = undialed_lacks c.in-Some-candidate.number old new (g.S.Streams.told c.dial.new.self) c.args.at c.in-Err.why c.in-Err.ensures.dialed (ap (λ (z : Net). z.told) c.note-in-Err.ensures) in
    let reads : reads_of new ≡ reads_of old = ap (λ (z : Net). reads_of z) c.note-in-Err.ensures ∙ dialed_reads (Err c.in-Err.why) c.in-Some-candidate.number c.args.at old.told (g.S.Streams.told c.dial.new.self) c.in-Err.ensures.dialed in
    let settles : Settles old new = settles_on old mid new (settles_narrow old mid narrow) (settles_table mid new (ap (λ (z : Net). z.table) c.note-in-Err.ensures)) in
    record {
      goes = subst (λ (z : Net). Goes z new none none) c.self.view_is goes;
      settles = subst (λ (z : Net). Settles z new) c.self.view_is settles;
      to = tt;
      why = subst (λ (z : Net). Lacks z new c.in-Err.why) c.self.view_is why;
      reads = subst (λ (z : Net). reads_of new ≡ reads_of z) c.self.view_is reads;
    }

pub returns-in-Ok-clause-settles : goal.returns-in-Ok-clause-settles
returns-in-Ok-clause-settles g c =
    let old : Net = record { told = g.S.Streams.told c.self.inside.sockets; table = c.self.inside.table; device = c.self.inside.device } in
    let mid : Net = record { told = g.S.Streams.told c.self.inside.sockets; table = c.note.new.self; device = c.self.inside.device } in
    let new : Net = record { told = g.S.Streams.told c.dial.new.self; table = c.add.new.self; device = c.self.inside.device } in
    let x : Connection = c.new.result in
    let n : ℕ = c.in-Some-candidate.number in
    let narrow = subst (λ (t : Table). Narrows old.table t) (sym c.note.ensures.same) c.candidate.ensures.narrows in
    let number : n ≡ mid.table.next = c.in-Some-candidate.ensures.found.0 ∙ ap (λ (t : Table). t.next) (sym c.note.ensures.same) in
    let added : Adds n mid.table new.table x = adds n mid.table new.table x number c.new.ensures.who.0 c.add.ensures.here c.add.ensures.others c.add.ensures.clients c.add.ensures.next c.add.ensures.same in
    subst (λ (z : Net). Settles z new) c.self.view_is (settles_added n old mid new x narrow added c.new.ensures.asks.0)

use Rattle.std.proofs.Common.{ℕ, refl, subst}
use Rattle.lb_loops_connections.specs.declared.connection.Connection.{Connection}
use Rattle.lb_loops_tcp.proofs.Opening.{Adds, adds, goes_came, goes_turned_none}
use Rattle.lb_loops_tcp.proofs.Settling.{settles_added}
use Rattle.lb_loops_tcp.proofs.links.Links.admit.Goals as goal
use Rattle.lb_loops_tcp.specs.Goes.{Goes, Settles, none}
use Rattle.lb_loops_tcp.specs.Links.{Net}

pub returns-in-Ok-Client-clause-goes : goal.returns-in-Ok-Client-clause-goes
returns-in-Ok-Client-clause-goes g c =
    let old : Net = record { told = g.S.Streams.told c.self.inside.sockets; table = c.self.inside.table; device = c.self.inside.device } in
    let mid : Net = record { told = g.S.Streams.told c.self.inside.sockets; table = c.candidate.new.self; device = c.self.inside.device } in
    let new : Net = record { told = g.S.Streams.told c.accept.new.self; table = c.add.new.self; device = c.self.inside.device } in
    let x : Connection = c.new.result in
    let n : ℕ = c.in-Some.number in
    let added : Adds n mid.table new.table x = adds n mid.table new.table x c.in-Some.ensures.found.0 c.new.ensures.who.0 c.add.ensures.here c.add.ensures.others c.add.ensures.clients c.add.ensures.next c.add.ensures.same in
    let came = rw c.in-Ok-Client.field-0-is at c.in-Ok-Client.ensures.came in
    subst (λ (z : Net). Goes z new none none) c.self.view_is (goes_came n old mid new x c.in-Ok-Client.front c.in-Ok-Client.at c.candidate.ensures.narrows refl refl added c.new.ensures.who.1 c.new.ensures.empty.0 c.new.ensures.empty.1 c.new.ensures.asks.0 came refl)

pub returns-in_default-clause-goes : goal.returns-in_default-clause-goes
returns-in_default-clause-goes g c =
    let old : Net = record { told = g.S.Streams.told c.self.inside.sockets; table = c.self.inside.table; device = c.self.inside.device } in
    let mid : Net = record { told = g.S.Streams.told c.self.inside.sockets; table = c.candidate.new.self; device = c.self.inside.device } in
    subst (λ (z : Net). Goes z c.turn_away-in_default.new.self none none) c.self.view_is
    (goes_turned_none old mid c.turn_away-in_default.new.self c.candidate.ensures.narrows c.in_default.ensures.none refl refl c.turn_away-in_default.ensures.goes)

pub returns-in-Ok-Client-clause-settles : goal.returns-in-Ok-Client-clause-settles
returns-in-Ok-Client-clause-settles g c =
    let old : Net = record { told = g.S.Streams.told c.self.inside.sockets; table = c.self.inside.table; device = c.self.inside.device } in
    let mid : Net = record { told = g.S.Streams.told c.self.inside.sockets; table = c.candidate.new.self; device = c.self.inside.device } in
    let new : Net = record { told = g.S.Streams.told c.accept.new.self; table = c.add.new.self; device = c.self.inside.device } in
    let x : Connection = c.new.result in
    let n : ℕ = c.in-Some.number in
    let added : Adds n mid.table new.table x = adds n mid.table new.table x c.in-Some.ensures.found.0 c.new.ensures.who.0 c.add.ensures.here c.add.ensures.others c.add.ensures.clients c.add.ensures.next c.add.ensures.same in
    subst (λ (z : Net). Settles z new) c.self.view_is (settles_added n old mid new x c.candidate.ensures.narrows added c.new.ensures.asks.0)

use Rattle.std.proofs.Common.{rules, [], ◌∷◌, ◌≡◌, None, vec_capacity, Some, refl, sym, ◌∙◌, ap, subst, true, option_to_list, arith}
use Rattle.std.proofs.lemmas.List.{append-nil}
use Rattle.lb_loops_udp.specs.Lines.{listened}
use Rattle.lb_loops_udp.specs.Turn.{Round, World}
use Rattle.lb_loops_udp.proofs.Handling.{grows_none}
use Rattle.lb_loops_udp.proofs.Rounds.{turns_idle, turns_read}
use Rattle.lb_loops_io.specs.Events.{event_of, is_strange}
use Rattle.lb_loops_io.specs.Lines.{FirstFault}
use Rattle.lb_loops_io.specs.declared.report.DeviceFault.TheVariants as devices
use Rattle.lb_loops_udp.proofs.datagrams.DatagramLoop.one_round.Goals as goal

pub returns-in_default-clause-turned : goal.returns-in_default-clause-turned
returns-in_default-clause-turned g c =
    let i = c.self.inside in
    let old : World = record { given = g.S.Datagrams.given i.sockets; taken = g.S.Datagrams.taken i.sockets; there = listened (g.S.Datagrams.listens i.sockets); failures = g.S.Datagrams.failures i.sockets; reads = g.S.Datagrams.reads i.sockets; answered = g.T.Taker.answered i.taker; pairs = g.T.Taker.pairs i.taker; said = g.O.Outside.said i.outside; outside = g.O.Outside.failures i.outside; room = vec_capacity i.spare.lines } in
    let new : World = record { given = g.S.Datagrams.given i.sockets; taken = g.S.Datagrams.taken i.sockets; there = listened (g.S.Datagrams.listens i.sockets); failures = g.S.Datagrams.failures i.sockets; reads = g.S.Datagrams.reads i.sockets; answered = g.T.Taker.answered i.taker; pairs = g.T.Taker.pairs i.taker; said = g.O.Outside.said c.ask.new.self; outside = g.O.Outside.failures c.ask.new.self; room = vec_capacity i.spare.lines } in
    let said : new.said ≡ old.said = search rules in
    let it : Round old new c.args.lines.now.items c.args.lines.now.items [] (Some devices.Outside) = record { more = []; put = sym (append-nil c.args.lines.now.items); turns = turns_idle old new [] (Some devices.Outside) refl refl refl (omega arith) refl refl (said ∙ sym (append-nil old.said)) (omega arith) (refl, search rules) } in
    rw c.no_event.ensures (subst (λ (z : World). Round z new c.args.lines.now.items c.args.lines.now.items [] (Some devices.Outside)) c.self.view_is it)

pub returns-in_err-datagram-clause-refused : goal.returns-in_err-datagram-clause-refused
returns-in_err-datagram-clause-refused g c =
    let i = c.self.inside in
    let old : World = record { given = g.S.Datagrams.given i.sockets; taken = g.S.Datagrams.taken i.sockets; there = listened (g.S.Datagrams.listens i.sockets); failures = g.S.Datagrams.failures i.sockets; reads = g.S.Datagrams.reads i.sockets; answered = g.T.Taker.answered i.taker; pairs = g.T.Taker.pairs i.taker; said = g.O.Outside.said i.outside; outside = g.O.Outside.failures i.outside; room = vec_capacity i.spare.lines } in
    let new : World = record { given = g.S.Datagrams.given c.receive.new.self; taken = g.S.Datagrams.taken c.receive.new.self; there = listened (g.S.Datagrams.listens c.receive.new.self); failures = g.S.Datagrams.failures c.receive.new.self; reads = g.S.Datagrams.reads c.receive.new.self; answered = g.T.Taker.answered i.taker; pairs = g.T.Taker.pairs i.taker; said = g.O.Outside.said c.ask.new.self; outside = g.O.Outside.failures c.ask.new.self; room = vec_capacity i.spare.lines } in
    let first : FirstFault None old.failures new.failures old.outside new.outside = search rules in
    let it : Round old new c.args.lines.now.items c.args.lines.now.items [] None = record { more = []; put = sym (append-nil c.args.lines.now.items); turns = turns_idle old new ((c.in-Some.now, c.in-Some.word) ∷ []) None (search rules) (search rules) (search rules) (search rules) refl refl (search rules) (omega arith) first } in
    let moved : Round c.args.self.now new c.args.lines.now.items c.args.lines.now.items [] None = (subst (λ (z : World). Round z new c.args.lines.now.items c.args.lines.now.items [] None) c.self.view_is it) in
    search rules

pub returns-in-Nothing-clause-turned : goal.returns-in-Nothing-clause-turned
returns-in-Nothing-clause-turned g c =
    let i = c.self.inside in
    let old : World = record { given = g.S.Datagrams.given i.sockets; taken = g.S.Datagrams.taken i.sockets; there = listened (g.S.Datagrams.listens i.sockets); failures = g.S.Datagrams.failures i.sockets; reads = g.S.Datagrams.reads i.sockets; answered = g.T.Taker.answered i.taker; pairs = g.T.Taker.pairs i.taker; said = g.O.Outside.said i.outside; outside = g.O.Outside.failures i.outside; room = vec_capacity i.spare.lines } in
    let new : World = record { given = g.S.Datagrams.given c.receive.new.self; taken = g.S.Datagrams.taken c.receive.new.self; there = listened (g.S.Datagrams.listens c.receive.new.self); failures = g.S.Datagrams.failures c.receive.new.self; reads = g.S.Datagrams.reads c.receive.new.self; answered = g.T.Taker.answered i.taker; pairs = g.T.Taker.pairs i.taker; said = g.O.Outside.said c.ask.new.self; outside = g.O.Outside.failures c.ask.new.self; room = vec_capacity i.spare.lines } in
    let first : FirstFault None old.failures new.failures old.outside new.outside = search rules in
    let it : Round old new c.args.lines.now.items c.args.lines.now.items [] None = record { more = []; put = sym (append-nil c.args.lines.now.items); turns = turns_idle old new ((c.in-Some.now, c.in-Some.word) ∷ []) None (search rules) (search rules) (search rules) (search rules) refl refl (search rules) (omega arith) first } in
    rw c.no_event-in-Nothing.ensures (subst (λ (z : World). Round z new c.args.lines.now.items c.args.lines.now.items [] None) c.self.view_is it)

pub returns-in-Failed-clause-turned : goal.returns-in-Failed-clause-turned
returns-in-Failed-clause-turned g c =
    let i = c.self.inside in
    let old : World = record { given = g.S.Datagrams.given i.sockets; taken = g.S.Datagrams.taken i.sockets; there = listened (g.S.Datagrams.listens i.sockets); failures = g.S.Datagrams.failures i.sockets; reads = g.S.Datagrams.reads i.sockets; answered = g.T.Taker.answered i.taker; pairs = g.T.Taker.pairs i.taker; said = g.O.Outside.said i.outside; outside = g.O.Outside.failures i.outside; room = vec_capacity i.spare.lines } in
    let new : World = record { given = g.S.Datagrams.given c.receive.new.self; taken = g.S.Datagrams.taken c.receive.new.self; there = listened (g.S.Datagrams.listens c.receive.new.self); failures = g.S.Datagrams.failures c.receive.new.self; reads = g.S.Datagrams.reads c.receive.new.self; answered = g.T.Taker.answered i.taker; pairs = g.T.Taker.pairs i.taker; said = g.O.Outside.said c.ask.new.self; outside = g.O.Outside.failures c.ask.new.self; room = vec_capacity i.spare.lines } in
    let first : FirstFault (Some devices.Sockets) old.failures new.failures old.outside new.outside = search rules in
    let it : Round old new c.args.lines.now.items c.args.lines.now.items [] (Some devices.Sockets) = record { more = []; put = sym (append-nil c.args.lines.now.items); turns = turns_idle old new ((c.in-Some.now, c.in-Some.word) ∷ []) (Some devices.Sockets) (search rules) (search rules) (search rules) (search rules) refl refl (search rules) (omega arith) first } in
    rw c.no_event-in-Failed.ensures (subst (λ (z : World). Round z new c.args.lines.now.items c.args.lines.now.items [] (Some devices.Sockets)) c.self.view_is it)

pub returns-then-is_stranger-clause-turned : goal.returns-then-is_stranger-clause-turned
returns-then-is_stranger-clause-turned g c =
    let i = c.self.inside in
    let old : World = record { given = g.S.Datagrams.given i.sockets; taken = g.S.Datagrams.taken i.sockets; there = listened (g.S.Datagrams.listens i.sockets); failures = g.S.Datagrams.failures i.sockets; reads = g.S.Datagrams.reads i.sockets; answered = g.T.Taker.answered i.taker; pairs = g.T.Taker.pairs i.taker; said = g.O.Outside.said i.outside; outside = g.O.Outside.failures i.outside; room = vec_capacity i.spare.lines } in
    let new : World = record { given = g.S.Datagrams.given c.receive.new.self; taken = g.S.Datagrams.taken c.receive.new.self; there = listened (g.S.Datagrams.listens c.receive.new.self); failures = g.S.Datagrams.failures c.receive.new.self; reads = g.S.Datagrams.reads c.receive.new.self; answered = g.T.Taker.answered i.taker; pairs = g.T.Taker.pairs i.taker; said = g.O.Outside.said c.ask.new.self; outside = g.O.Outside.failures c.ask.new.self; room = vec_capacity i.spare.lines } in
    let d = c.in-Packet.datagram in
    let strange : is_strange d.socket d.peer ≡ true = sym c.is_stranger.ensures ∙ c.if-is_stranger.true in
    let none : event_of d ≡ None = rw strange refl in
    let turns = turns_read old new d (c.in-Some.now, c.in-Some.word) [] [] None (search rules) (sym (ap option_to_list none)) tt (omega arith) (search rules) (search rules) (search rules) tt (omega arith) (grows_none old.pairs new.pairs refl) (search rules) (search rules) in
    let it : Round old new c.args.lines.now.items c.args.lines.now.items [] None = record { more = []; put = sym (append-nil c.args.lines.now.items); turns = turns } in
    rw c.no_event-then-is_stranger.ensures (subst (λ (z : World). Round z new c.args.lines.now.items c.args.lines.now.items [] None) c.self.view_is it)

pub returns-else-is_stranger-clause-turned : goal.returns-else-is_stranger-clause-turned
returns-else-is_stranger-clause-turned g c =
    let i = c.self.inside in
    let old : World = record { given = g.S.Datagrams.given i.sockets; taken = g.S.Datagrams.taken i.sockets; there = listened (g.S.Datagrams.listens i.sockets); failures = g.S.Datagrams.failures i.sockets; reads = g.S.Datagrams.reads i.sockets; answered = g.T.Taker.answered i.taker; pairs = g.T.Taker.pairs i.taker; said = g.O.Outside.said i.outside; outside = g.O.Outside.failures i.outside; room = vec_capacity i.spare.lines } in
    let new : World = record { given = g.S.Datagrams.given c.receive.new.self; taken = g.S.Datagrams.taken c.receive.new.self; there = listened (g.S.Datagrams.listens c.receive.new.self); failures = g.S.Datagrams.failures c.receive.new.self; reads = g.S.Datagrams.reads c.receive.new.self; answered = g.T.Taker.answered c.packet.new.taker; pairs = g.T.Taker.pairs c.packet.new.taker; said = g.O.Outside.said c.ask.new.self; outside = g.O.Outside.failures c.ask.new.self; room = vec_capacity i.spare.lines } in
    let handled = c.packet.ensures.handled in
    let turns = turns_read old new c.in-Packet.datagram (c.in-Some.now, c.in-Some.word) handled.more _ _
    (search rules) handled.events handled.stamped handled.few (search rules) (search rules) (search rules) handled.asked handled.counted handled.grows (search rules) (search rules) in
    let it : Round old new c.args.lines.now.items c.packet.new.lines.items (option_to_list c.packet.result.held) c.packet.result.device = record { more = handled.more; put = handled.put; turns = turns } in
    subst (λ (z : World). Round z new c.args.lines.now.items c.packet.new.lines.items (option_to_list c.packet.result.held) c.packet.result.device) c.self.view_is it

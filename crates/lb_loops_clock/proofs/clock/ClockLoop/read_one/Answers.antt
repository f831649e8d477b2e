use Rattle.std.proofs.Common.{true, false, refl, sym, ap}
use Rattle.lb_loops_clock.proofs.Going.{goes_blind, goes_heard, goes_held_back, goes_none, goes_passed, goes_unread, or_none, read_is}
use Rattle.lb_loops_clock.proofs.clock.ClockLoop.read_one.Goals as goal

pub returns-then-is_full : goal.returns-then-is_full
returns-then-is_full g c = record { goes = λ on. goes_none on 1 c.args.self.now c.args.tally.now.lines.items c.args.tally.now.device }

pub returns-in_default : goal.returns-in_default
returns-in_default g c = record { goes = λ on. goes_blind on 1 c.args.self.now c.ask.new.self _ _ _ _ c.in_default.ensures.blind (ap (λ v. v.items) c.note.ensures.same.0) c.note.ensures.device }

pub returns-in-Failed : goal.returns-in-Failed
returns-in-Failed g c = record { goes = λ on. goes_unread on c.args.self.now c.ask.new.self c.receive.new.self (c.in-Some.now, c.in-Some._word) true _ _ _ _ c.in-Some.ensures.said c.receive.ensures.same c.in-Failed.ensures.gave.0 c.in-Failed.ensures.gave.1 (ap (λ v. v.items) c.note-in-Failed.ensures.same.0) c.note-in-Failed.ensures.device }

pub returns-in-Nothing : goal.returns-in-Nothing
returns-in-Nothing g c = record { goes = λ on. goes_unread on c.args.self.now c.ask.new.self c.receive.new.self (c.in-Some.now, c.in-Some._word) false _ _ _ _ c.in-Some.ensures.said c.receive.ensures.same c.in-Nothing.ensures.gave.0 c.in-Nothing.ensures.gave.1 refl (sym (or_none c.args.tally.now.device)) }

pub returns-in_default-hear : goal.returns-in_default-hear
returns-in_default-hear g c = record { goes = λ on. goes_passed on c.args.self.now c.receive.new.self (c.in-Some.now, c.in-Some._word) c.in-Packet.datagram _ _ (read_is c.args.self.now c.ask.new.self c.receive.new.self _ _ c.in-Some.ensures.said c.receive.ensures.same c.in-Packet.ensures.gave.0 c.in-Packet.ensures.gave.1) c.in_default-hear.ensures.none }

pub returns-in_default-tell : goal.returns-in_default-tell
returns-in_default-tell g c = record { goes = λ on. goes_held_back on c.args.self.now c.receive.new.self c.tell.new.self (c.in-Some.now, c.in-Some._word) c.in-Packet.datagram _ _ (read_is c.args.self.now c.ask.new.self c.receive.new.self _ _ c.in-Some.ensures.said c.receive.ensures.same c.in-Packet.ensures.gave.0 c.in-Packet.ensures.gave.1) c.in_default-tell.ensures.held }

pub returns : goal.returns
returns g c = record {
  goes = λ on. goes_heard on c.args.self.now c.receive.new.self c.tell.new.self c.end_probe.new.self (c.in-Some.now, c.in-Some._word) c.in-Packet.datagram c.in-Some-hear.answered.index c.in-Some-hear.answered.watched c.in-Some-hear.answered.waits c.in-Some-tell.told.outcome c.in-Some-tell.told.sending c.line_of.result _ _ _ _
      (read_is c.args.self.now c.ask.new.self c.receive.new.self _ _ c.in-Some.ensures.said c.receive.ensures.same c.in-Packet.ensures.gave.0 c.in-Packet.ensures.gave.1) c.in-Some-hear.ensures.some.0 c.in-Some-hear.ensures.some.1 c.in-Some-hear.ensures.some.2 c.in-Some-hear.ensures.some.3 c.in-Some-tell.ensures.tells c.end_probe.ensures c.line_of.ensures c.add_event.ensures.lines c.add_event.ensures.device;
}

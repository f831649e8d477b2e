use Rattle.std.proofs.Common.{ap}
use Rattle.lb_loops_clock.proofs.Going.{goes_blind, goes_held, goes_none, goes_ticked}
use Rattle.lb_loops_clock.proofs.clock.ClockLoop.tick_one.Goals as goal

pub returns-then-is_full-clause-goes : goal.returns-then-is_full-clause-goes
returns-then-is_full-clause-goes g c = λ on. goes_none on 0 c.args.self.now c.args.tally.now.lines.items c.args.tally.now.device

pub returns-in_default-clause-goes : goal.returns-in_default-clause-goes
returns-in_default-clause-goes g c = λ on. goes_blind on 0 c.args.self.now c.ask.new.self _ _ _ _ c.in_default.ensures.blind (ap (λ v. v.items) c.note.ensures.same.0) c.note.ensures.device

pub returns-in_default-tell-clause-goes : goal.returns-in_default-tell-clause-goes
returns-in_default-tell-clause-goes g c = λ on. goes_held on c.args.self.now c.ask.new.self c.tell.new.self (c.in-Some.now, c.in-Some._word) _ _ c.in-Some.ensures.said c.in_default-tell.ensures.held

pub returns-then-is_quiet-clause-goes : goal.returns-then-is_quiet-clause-goes
returns-then-is_quiet-clause-goes g c = λ on. goes_ticked on c.args.self.now c.ask.new.self c.tell.new.self (c.in-Some.now, c.in-Some._word) c.in-Some-tell.told.outcome c.in-Some-tell.told.sending c.line_of.result _ _ _ _ c.in-Some.ensures.said c.in-Some-tell.ensures.tells c.line_of.ensures c.add_event.ensures.lines c.add_event.ensures.device

pub returns-else-is_quiet-clause-goes : goal.returns-else-is_quiet-clause-goes
returns-else-is_quiet-clause-goes g c = λ on. goes_ticked on c.args.self.now c.ask.new.self c.tell.new.self (c.in-Some.now, c.in-Some._word) c.in-Some-tell.told.outcome c.in-Some-tell.told.sending c.line_of.result _ _ _ _ c.in-Some.ensures.said c.in-Some-tell.ensures.tells c.line_of.ensures c.add_event.ensures.lines c.add_event.ensures.device

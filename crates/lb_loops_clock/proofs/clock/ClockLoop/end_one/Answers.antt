use Rattle.std.proofs.Common.{◌≡◌, rules, inl, inr, refl, ap, ◌∙◌, arith}
use Rattle.lb_loops_clock.specs.Acts.{setting}
use Rattle.lb_loops_clock.specs.World.{World}
use Rattle.lb_loops_clock.proofs.Going.{goes_blind, goes_ended, goes_held, goes_none}
use Rattle.lb_loops_clock.proofs.Probing.{ends_at, stays_at}
use Rattle.lb_loops_probes.specs.Probes.{Probed, ended}
use Rattle.lb_loops_clock.proofs.clock.ClockLoop.end_one.Goals as goal

pub returns-in_err-watched-clause-goes : goal.returns-in_err-watched-clause-goes
returns-in_err-watched-clause-goes g c = λ roster. rw c.from_residual.ensures (goes_none (setting roster c.args.begun) 0 c.args.self.now c.args.tally.now.lines.items c.args.tally.now.device)

pub returns-in_err-watched-clause-ended : goal.returns-in_err-watched-clause-ended
returns-in_err-watched-clause-ended g c = λ _. stays_at c.args.begun c.args.index _ _ (inr c.in_err-watched.ensures.none)

pub returns-then-is_full-clause-goes : goal.returns-then-is_full-clause-goes
returns-then-is_full-clause-goes g c = λ roster. goes_none (setting roster c.args.begun) 0 c.args.self.now c.args.tally.now.lines.items c.args.tally.now.device

pub returns-then-is_full-clause-ended : goal.returns-then-is_full-clause-ended
returns-then-is_full-clause-ended g c = λ _. stays_at c.args.begun c.args.index _ c.args.tally.now.events (inl (search (rules, arith)))

pub returns-in_default-clause-goes : goal.returns-in_default-clause-goes
returns-in_default-clause-goes g c = λ roster. goes_blind (setting roster c.args.begun) 0 c.args.self.now c.ask.new.self _ _ _ _ c.in_default.ensures.blind (ap (λ v. v.items) c.note.ensures.same.0) c.note.ensures.device

pub returns-in_default-tell-clause-goes : goal.returns-in_default-tell-clause-goes
returns-in_default-tell-clause-goes g c = λ roster. goes_held (setting roster c.args.begun) c.args.self.now c.ask.new.self c.tell.new.self (c.in-Some.now, c.in-Some._word) _ _ c.in-Some.ensures.said c.in_default-tell.ensures.held

pub returns-clause-goes : goal.returns-clause-goes
returns-clause-goes g c = λ roster.
    goes_ended (setting roster c.args.begun) c.args.self.now c.ask.new.self c.tell.new.self c.end_probe.new.self (c.in-Some.now, c.in-Some._word) c.args.index c.in_ok-watched.watched c.in_ok-watched.waits c.in-Some-tell.told.outcome c.in-Some-tell.told.sending c.line_of.result _ _ _ _
    c.in-Some.ensures.said c.in_ok-watched.ensures.some.0 c.in_ok-watched.ensures.some.1 c.in_ok-watched.ensures.some.2 c.in-Some-tell.ensures.tells c.end_probe.ensures c.line_of.ensures c.add_event.ensures.lines c.add_event.ensures.device

pub returns-clause-ended : goal.returns-clause-ended
returns-clause-ended g c = λ _.
    let same : c.tell.new.self.probes ≡ c.args.self.now.probes = ap (λ (w : World). w.probes) c.in-Some-tell.ensures.tells.same ∙ ap (λ (w : World). w.probes) c.in-Some.ensures.said in
    let is = ap (λ (w : World). w.probes.watched) c.end_probe.ensures ∙ ap (λ (p : Probed). (ended p c.args.index c.in_ok-watched.watched).watched) same in
    let more = c.add_event.ensures.count.0 in
    ends_at c.args.begun c.args.index _ _ c.in_ok-watched.watched _ _ _ c.in_ok-watched.ensures.some.0 is refl refl (omega (arith, more))

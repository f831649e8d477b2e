use Rattle.std.proofs.Common.{refl, ap, ◌∙◌}
use Rattle.lb_loops_clock.specs.Acts.{setting}
use Rattle.lb_loops_clock.specs.Lines.{is_done}
use Rattle.lb_loops_clock.specs.World.{World}
use Rattle.lb_loops_clock.proofs.Going.{goes_begun, goes_blind}
use Rattle.lb_loops_clock.proofs.Probing.{begins_at}
use Rattle.lb_loops_probes.specs.Probes.{Probed, begun}
use Rattle.lb_loops_clock.proofs.clock.ClockLoop.begin_one.Goals as goal

pub returns-in_default-clause-goes : goal.returns-in_default-clause-goes
returns-in_default-clause-goes g c = λ roster is_due. goes_blind (setting roster c.args.begun) 0 c.args.self.now c.ask.new.self _ _ _ _ c.in_default.ensures.blind (ap (λ v. v.items) c.note.ensures.same.0) c.note.ensures.device

pub returns-clause-goes : goal.returns-clause-goes
returns-clause-goes g c = λ roster is_due.
    goes_begun (setting roster c.args.begun) c.args.self.now c.ask.new.self c.send_probe-sending.new.self (c.in-Some.stamp.0, c.in-Some.stamp.1) c.args.due.index c.args.due.watched c.args.due.place c.send_probe-sending.result _ _ _ _
    c.in-Some.ensures.said c.requires.there is_due c.send_probe-sending.ensures.comes c.send_probe-sending.ensures.taken c.send_probe-sending.ensures.failed c.send_probe-sending.ensures.begun c.send_probe-sending.ensures.same c.add_probe.ensures.lines c.add_probe.ensures.device

pub returns-clause-begun : goal.returns-clause-begun
returns-clause-begun g c = λ _.
    begins_at c.args.begun c.args.due.index _ _ c.args.due.watched _ c.requires.there
    (ap (λ (p : Probed). p.watched) c.send_probe-sending.ensures.begun ∙ ap (λ (w : World). (begun w.probes c.args.due.index c.args.due.watched c.args.due.place c.args.begun (c.in-Some.stamp.0, c.in-Some.stamp.1) (is_done c.send_probe-sending.result)).watched) c.in-Some.ensures.said) refl

use Rattle.std.proofs.Common.{rules, inr, refl, ◌∙◌}
use Rattle.lb_loops_clock.specs.Acts.{setting}
use Rattle.lb_loops_clock.proofs.Going.{goes_none, goes_on}
use Rattle.lb_loops_clock.proofs.Probing.{ends_first, first_none, or_all}
use Rattle.lb_loops_probes.specs.Probes.{IsTimely}
use Rattle.lb_loops_clock.proofs.clock.ClockLoop.end_all.Goals as goal

pub loop-index-init : goal.loop-index-init
loop-index-init g c = (λ roster. goes_none (setting roster c.args.begun) 0 c.args.self.now c.args.tally.now.lines.items c.args.tally.now.device, refl, inr (first_none (IsTimely c.args.begun) _))

pub loop-index-preserved : goal.loop-index-preserved
loop-index-preserved g c =
    let ended = c.in_default.ensures.ended refl in
    (λ roster. goes_on (setting roster c.args.begun) 0 0 _ _ _ _ _ _ _ _ _ _ (c.loop-index.invariant.0 roster) (c.in_default.ensures.goes roster), ended.0.0 ∙ c.loop-index.invariant.1, ends_first c.args.begun _ _ _ _ _ c.loop-index.invariant.2 ended)

pub returns-in-Some-clause-goes : goal.returns-in-Some-clause-goes
returns-in-Some-clause-goes g c = λ roster. goes_on (setting roster c.args.begun) 0 0 _ _ _ _ _ _ _ _ _ _ (c.loop-index.invariant.0 roster) (c.in-Some.ensures.goes roster)

pub returns-clause-timely : goal.returns-clause-timely
returns-clause-timely g c = λ _. or_all (IsTimely c.args.begun) _ _ _ (search rules) c.loop-index.invariant.2

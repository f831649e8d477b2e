use Rattle.std.proofs.Common.{arith, refl, ◌∙◌}
use Rattle.lb_loops_clock.proofs.Going.{goes_none, goes_on}
use Rattle.lb_loops_clock.proofs.clock.ClockLoop.tick_all.Goals as goal

pub loop-init : goal.loop-init
loop-init g c = (λ on. goes_none on 0 c.args.self.now c.args.tally.now.lines.items c.args.tally.now.device, omega arith, refl, omega arith, refl)

pub loop-preserved : goal.loop-preserved
loop-preserved g c =
    let more = c.in-More.ensures.more refl in
    let same = c.in-More.ensures.same in
    let rises = same.1 in
    let le = c.loop.invariant.1 in
    let before = c.loop.invariant.3 in
    (λ on. goes_on on 0 0 _ _ _ _ _ _ _ _ _ _ (c.loop.invariant.0 on) (c.in-More.ensures.goes on), omega (arith, more, le), same.0 ∙ c.loop.invariant.2, omega (arith, rises, before), same.2 ∙ c.loop.invariant.4)

pub returns-in-Last-clause-goes : goal.returns-in-Last-clause-goes
returns-in-Last-clause-goes g c = λ on. goes_on on 0 0 _ _ _ _ _ _ _ _ _ _ (c.loop.invariant.0 on) (c.in-Last.ensures.goes on)

pub returns-in-Last-clause-same : goal.returns-in-Last-clause-same
returns-in-Last-clause-same g c =
    let same = c.in-Last.ensures.same in
    let rises = same.1 in
    let before = c.loop.invariant.3 in
    (same.0 ∙ c.loop.invariant.2, omega (arith, rises, before), same.2 ∙ c.loop.invariant.4)

pub returns-in-Over-clause-goes : goal.returns-in-Over-clause-goes
returns-in-Over-clause-goes g c = λ on. goes_on on 0 0 _ _ _ _ _ _ _ _ _ _ (c.loop.invariant.0 on) (c.in-Over.ensures.goes on)

pub returns-in-Over-clause-same : goal.returns-in-Over-clause-same
returns-in-Over-clause-same g c =
    let same = c.in-Over.ensures.same in
    let rises = same.1 in
    let before = c.loop.invariant.3 in
    (same.0 ∙ c.loop.invariant.2, omega (arith, rises, before), same.2 ∙ c.loop.invariant.4)

pub returns-clause-same : goal.returns-clause-same
returns-clause-same g c = (c.loop.invariant.2, c.loop.invariant.3, c.loop.invariant.4)

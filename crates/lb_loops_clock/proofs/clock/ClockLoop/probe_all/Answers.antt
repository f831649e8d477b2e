use Rattle.std.proofs.Common.{rules, inr, refl, ◌∙◌}
use Rattle.lb_loops_clock.specs.Acts.{setting}
use Rattle.lb_loops_clock.proofs.Going.{goes_none, goes_on}
use Rattle.lb_loops_clock.proofs.Probing.{asks_first, first_none, or_all, passes_at, probes_here, timely_on}
use Rattle.lb_loops_probes.specs.Probes.{IsAsked}
use Rattle.lb_loops_clock.proofs.clock.ClockLoop.probe_all.Goals as goal

pub loop-index-init : goal.loop-index-init
loop-index-init g c = (goes_none (setting c.args.roster.now c.args.begun) 0 c.args.self.now c.args.tally.now.lines.items c.args.tally.now.device, refl, λ timely. timely, inr (first_none (IsAsked c.args.roster.now.listed c.args.begun) _))

pub loop-index-preserved : goal.loop-index-preserved
loop-index-preserved g c =
    let probed = probes_here c.args.roster.now.listed c.args.begun _ _ _ _ _ _ _ _ c.in-Some.ensures.at (c.in_default-probe_one.ensures.probed refl c.args.roster.now.listed) in (
      goes_on (setting c.args.roster.now c.args.begun) 0 0 _ _ _ _ _ _ _ _ _ _ c.loop-index.invariant.0 (c.in_default-probe_one.ensures.goes c.args.roster.now c.in-Some.ensures.some.1),
      probed.0.0 ∙ c.loop-index.invariant.1,
      timely_on c.args.roster.now.listed c.args.begun _ _ _ _ _ _ _ _ _ c.loop-index.invariant.2 probed,
      asks_first c.args.roster.now.listed c.args.begun _ _ _ _ _ _ _ c.loop-index.invariant.3 probed,
    )

pub loop-index-preserved-in_default : goal.loop-index-preserved-in_default
loop-index-preserved-in_default g c =
    let passed = passes_at c.args.roster.now.listed c.args.begun c.loop-index.index c.loop-index.self.probes.watched c.loop-index.tally.events c.loop-index.tally.probes (inr c.in_default.ensures.none) in
    (c.loop-index.invariant.0, c.loop-index.invariant.1, c.loop-index.invariant.2, asks_first c.args.roster.now.listed c.args.begun _ _ _ _ _ _ _ c.loop-index.invariant.3 passed)

pub returns-in-Some-probe_one-clause-goes : goal.returns-in-Some-probe_one-clause-goes
returns-in-Some-probe_one-clause-goes g c = goes_on (setting c.args.roster.now c.args.begun) 0 0 _ _ _ _ _ _ _ _ _ _ c.loop-index.invariant.0 (c.in-Some-probe_one.ensures.goes c.args.roster.now c.in-Some.ensures.some.1)

pub returns-clause-asked : goal.returns-clause-asked
returns-clause-asked g c = λ _. or_all (IsAsked c.args.roster.now.listed c.args.begun) _ _ _ (search rules) c.loop-index.invariant.3

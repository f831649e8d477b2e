use Rattle.std.proofs.Common.{rules, inl, refl, arith}
use Rattle.lb_loops_clock.specs.Acts.{setting}
use Rattle.lb_loops_clock.proofs.Going.{goes_none, goes_on}
use Rattle.lb_loops_clock.proofs.Probing.{passes_at, probes_at}
use Rattle.lb_loops_clock.proofs.clock.ClockLoop.probe_one.Goals as goal

pub returns-then-tally-eq-MAX_EVENTS_OF_TURN-clause-goes : goal.returns-then-tally-eq-MAX_EVENTS_OF_TURN-clause-goes
returns-then-tally-eq-MAX_EVENTS_OF_TURN-clause-goes g c = λ roster is_due. goes_none (setting roster c.args.begun) 0 c.args.self.now c.args.tally.now.lines.items c.args.tally.now.device

pub returns-then-tally-eq-MAX_EVENTS_OF_TURN-clause-probed : goal.returns-then-tally-eq-MAX_EVENTS_OF_TURN-clause-probed
returns-then-tally-eq-MAX_EVENTS_OF_TURN-clause-probed g c = λ _ roster. passes_at roster c.args.begun c.args.due.index _ _ _ (inl (search (rules, arith)))

pub returns-clause-goes : goal.returns-clause-goes
returns-clause-goes g c = λ roster is_due. goes_on (setting roster c.args.begun) 0 0 _ _ _ _ _ _ _ _ _ _ (c.in_default.ensures.goes roster is_due) (c.end_one.ensures.goes roster)

pub returns-clause-probed : goal.returns-clause-probed
returns-clause-probed g c = λ none roster.
    let counts = c.in_default.ensures.counts in
    let sent = c.end_one.ensures.probes in
    let le = counts.1 in
    probes_at roster c.args.begun c.args.due.index _ _ _ _ _ _ _ _ (c.in_default.ensures.begun refl) (c.end_one.ensures.ended none) counts.0 (omega (arith, sent, le))

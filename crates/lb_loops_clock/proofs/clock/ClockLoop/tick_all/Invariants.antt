use Rattle.std.proofs.Common.{◌≡◌, None, ◌≤◌}
use Rattle.lb_loops_clock.specs.Acts.{Setting}
use Rattle.lb_loops_clock.specs.Turn.{Goes}
use Rattle.lb_loops_clock.proofs.clock.ClockLoop.tick_all.Given as goal

abbrev pub invariant-loop : goal.invariant-loop
invariant-loop g l =
    ((on : Setting) → Goes on 0 l.fn.self l.self l.fn.tally.lines.items l.tally.lines.items l.fn.tally.device l.tally.device None) × (l.counter ≤ l.tally.events)
    × (l.self.probes ≡ l.fn.self.probes) × (l.fn.tally.events ≤ l.tally.events) × (l.tally.probes ≡ l.fn.tally.probes)

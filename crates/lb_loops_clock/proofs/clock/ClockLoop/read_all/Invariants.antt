use Rattle.std.proofs.Common.{None}
use Rattle.lb_loops_clock.specs.Acts.{Setting}
use Rattle.lb_loops_clock.specs.Turn.{Goes}
use Rattle.lb_loops_clock.proofs.clock.ClockLoop.read_all.Given as goal

abbrev pub invariant-loop : goal.invariant-loop
invariant-loop g l = (on : Setting) → Goes on l.counter l.fn.self l.self l.fn.tally.lines.items l.tally.lines.items l.fn.tally.device l.tally.device None

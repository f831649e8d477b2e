use Rattle.std.proofs.Common.{◌≡◌, ◌≤◌, ◌⊎◌, None, length}
use Rattle.lb_loops_clock.specs.Acts.{setting}
use Rattle.lb_loops_clock.specs.Turn.{Goes}
use Rattle.lb_loops_probes.specs.Probes.{Each, First, IsAsked, IsTimely}
use Rattle.lb_loops_clock.proofs.clock.ClockLoop.probe_all.Given as goal

abbrev pub invariant-loop-index : goal.invariant-loop-index
invariant-loop-index g l =
    Goes (setting l.roster l.begun) 0 l.fn.self l.self l.fn.tally.lines.items l.tally.lines.items l.fn.tally.device l.tally.device None
    × (length l.self.probes.watched ≡ length l.fn.self.probes.watched)
    × ((64 ≤ l.fn.tally.events) ⊎ Each (IsTimely l.begun) l.fn.self.probes.watched → (64 ≤ l.tally.events) ⊎ Each (IsTimely l.begun) l.self.probes.watched)
    × ((64 ≤ l.tally.probes) ⊎ First (IsAsked l.roster.listed l.begun) l.index l.self.probes.watched)

use Rattle.std.proofs.Common.{◌≤◌}
use Rattle.lb_loops_probes.specs.Probes.{First, IsQuietFor}
use Rattle.lb_loops_probes.proofs.probes.Probes.quiet_for.Given as goal

abbrev pub invariant-loop-index : goal.invariant-loop-index
invariant-loop-index l = (l.quiet ≤ l.at_most) × First (IsQuietFor l.roster.listed l.now l.quiet) l.index l.self.watched

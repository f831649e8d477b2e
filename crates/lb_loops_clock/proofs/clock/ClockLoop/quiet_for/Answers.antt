use Rattle.std.proofs.Common.{subst}
use Rattle.lb_loops_clock.specs.World.{World}
use Rattle.lb_loops_probes.specs.Probes.{Each, IsQuietFor}
use Rattle.lb_loops_clock.proofs.clock.ClockLoop.quiet_for.Goals as goal

pub returns-clause-quiet : goal.returns-clause-quiet
returns-clause-quiet g c = subst (λ (w : World). Each (IsQuietFor c.args.roster.now.listed c.args.now c.quiet_for.result) w.probes.watched) c.self.view_is c.quiet_for.ensures.quiet

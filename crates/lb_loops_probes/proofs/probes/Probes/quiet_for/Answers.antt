use Rattle.std.proofs.Common.{rules, arith}
use Rattle.lb_loops_probes.specs.Probes.{IsQuietFor}
use Rattle.lb_loops_probes.proofs.Probing.{first_all, quiet_on}
use Rattle.lb_loops_probes.proofs.probes.Probes.quiet_for.Goals as goal

pub loop-index-preserved : goal.loop-index-preserved
loop-index-preserved c =
    let first = c.lesser-quiet.ensures.first in
    let bound = c.loop-index.invariant.0 in
    (omega (arith, first, bound), quiet_on c.args.roster.now.listed c.args.now _ _ _ _ _ first c.lesser-quiet.ensures.second c.loop-index.invariant.1 c.quiet_at.ensures)

pub returns-clause-quiet : goal.returns-clause-quiet
returns-clause-quiet c = first_all (IsQuietFor c.args.roster.now.listed c.args.now c.loop-index.quiet) _ _ (search rules) c.loop-index.invariant.1

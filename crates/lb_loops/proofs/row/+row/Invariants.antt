use Prim.Native.Nat.{◌+◌, ◌*◌}
use Rattle.lb_loops.proofs.row.+row.Given as goal

abbrev pub decreases-run_some : goal.decreases-run_some
decreases-run_some g l = 2 * l.parts.len

abbrev pub decreases-others : goal.decreases-others
decreases-others g l = 2 * l.parts.len + 1

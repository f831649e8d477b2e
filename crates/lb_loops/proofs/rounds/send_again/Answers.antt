use Rattle.std.proofs.Common.{arith}
use Rattle.lb_loops.proofs.Continuing.{sends_again}
use Rattle.lb_loops.specs.Running.{sends_none, sends_twice}
use Rattle.lb_loops.proofs.rounds.send_again.Goals as goal

pub loop-init : goal.loop-init
loop-init g c = (omega arith, sends_none _)

pub loop-preserved : goal.loop-preserved
loop-preserved g c =
    let again = sends_again _ _ _ c.send_again.result c.send_again.ensures.sent c.send_again.ensures.same in
    let before = c.loop.invariant.0 in
    let more = again.0 in
    (omega arith, sends_twice _ _ _ c.loop.invariant.1 again.1)

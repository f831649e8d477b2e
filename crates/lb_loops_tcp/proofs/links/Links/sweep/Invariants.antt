use Rattle.lb_loops_tcp.specs.Turn.{Sweeps}
use Rattle.lb_loops_tcp.proofs.links.Links.sweep.Given as goal

abbrev pub invariant-loop-place : goal.invariant-loop-place
invariant-loop-place g l = Sweeps l.now l.fn.self l.self

use Rattle.std.proofs.Common.{◌≡◌}
use Rattle.lb_loops_tcp.specs.Goes.{Goes, Settles, none, reads_of}
use Rattle.lb_loops_tcp.proofs.links.Links.follow.Given as goal

abbrev pub invariant-loop-place : goal.invariant-loop-place
invariant-loop-place g l = Goes l.fn.self l.self none none × (reads_of l.self ≡ reads_of l.fn.self) × Settles l.fn.self l.self

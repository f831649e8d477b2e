use Rattle.std.proofs.Common.{take}
use Rattle.lb_servers.specs.Ranks.{StandAt, by_order}
use Rattle.lb_servers.proofs.ranks.Ranks.of.Given as goal

abbrev pub invariant-loop-at : goal.invariant-loop-at
invariant-loop-at l = StandAt l.servers l.ranks (by_order (take l.at l.servers))

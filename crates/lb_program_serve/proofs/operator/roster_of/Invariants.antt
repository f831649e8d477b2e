use Rattle.std.proofs.Common.{[], take}
use Rattle.lb_program_serve.specs.Operator.{PutsAll}
use Rattle.lb_program_serve.proofs.operator.roster_of.Given as goal

abbrev pub invariant-loop-server : goal.invariant-loop-server
invariant-loop-server l = PutsAll (take l.server-index l.servers) (record { version = 0; listed = [] }) l.roster

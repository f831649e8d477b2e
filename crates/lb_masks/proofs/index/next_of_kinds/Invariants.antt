use Rattle.std.proofs.Common.{drop}
use Rattle.lb_masks.proofs.Looks.{Goes}
use Rattle.lb_masks.proofs.index.next_of_kinds.Given as goal

abbrev pub invariant-loop-kind : goal.invariant-loop-kind
invariant-loop-kind l = Goes l.ranks l.addr l.kinds (drop l.kind-index l.kinds) l.from l.best

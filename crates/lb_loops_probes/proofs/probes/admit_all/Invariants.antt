use Rattle.std.proofs.Common.{◌≡◌, List, ◌++◌, vec_capacity}
use Rattle.lb_loops_probes.specs.Probes.{AreFresh, AreProbed}
use Rattle.lb_loops_probes.specs.declared.watched.Watched.{Watched}
use Rattle.lb_loops_probes.proofs.probes.admit_all.Given as goal

abbrev pub invariant-loop-index : goal.invariant-loop-index
invariant-loop-index l = ((fresh : List Watched) × (l.watched.items ≡ l.fn.watched.items ++ fresh) × AreFresh l.now l.roster.listed l.fn.watched.items fresh) × (vec_capacity l.watched ≡ vec_capacity l.fn.watched) × AreProbed l.index l.roster.listed l.watched.items

use Rattle.std.proofs.Common.{List, drop}
use Rattle.lb_suffix.specs.Index.{Pair}
use Rattle.lb_chain.specs.FirstAsked.{at_names}
use Rattle.lb_chain.specs.Filing.{AreWithout}
use Rattle.lb_chain.proofs.filing.unfile_names.Given as goal

abbrev pub invariant-loop-at : goal.invariant-loop-at
invariant-loop-at l = (new : List Pair) → AreWithout l.names (at_names (drop l.at l.set) l.rank) new → AreWithout l.fn.names (at_names l.set l.rank) new

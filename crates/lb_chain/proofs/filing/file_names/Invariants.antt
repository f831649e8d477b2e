use Rattle.std.proofs.Common.{List, drop}
use Rattle.lb_suffix.specs.Index.{Pair}
use Rattle.lb_chain.specs.FirstAsked.{at_names}
use Rattle.lb_chain.specs.Filing.{AreWith}
use Rattle.lb_chain.proofs.Filed.{AreMore}
use Rattle.lb_chain.proofs.filing.file_names.Given as goal

abbrev pub invariant-loop-at : goal.invariant-loop-at
invariant-loop-at l = ((new : List Pair) → AreWith l.names (at_names (drop l.at l.set) l.rank) new → AreWith l.fn.names (at_names l.set l.rank) new) × AreMore l.fn.names (at_names l.set l.rank) l.names

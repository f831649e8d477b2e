use Rattle.std.proofs.Common.{take}
use Rattle.lb_terms.specs.Names.{IsIndexOf}
use Rattle.lb_terms.proofs.names.index_of.Given as goal

abbrev pub invariant-loop-name : goal.invariant-loop-name
invariant-loop-name l = IsIndexOf (take l.name-index l.names) l.index

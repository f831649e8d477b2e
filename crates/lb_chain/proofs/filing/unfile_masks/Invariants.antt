use Rattle.std.proofs.Common.{List, drop}
use Rattle.lb_masks.specs.Index.{Pair}
use Rattle.lb_chain.specs.FirstAsked.{at_masks}
use Rattle.lb_chain.specs.Filing.{AreWithout}
use Rattle.lb_chain.proofs.filing.unfile_masks.Given as goal

abbrev pub invariant-loop-mask : goal.invariant-loop-mask
invariant-loop-mask l = (new : List Pair) → AreWithout l.masks (at_masks (drop l.mask-index l.set) l.rank) new → AreWithout l.fn.masks (at_masks l.set l.rank) new

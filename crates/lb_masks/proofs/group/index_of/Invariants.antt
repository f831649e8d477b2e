use Rattle.std.proofs.Common.{take}
use Rattle.lb_masks.specs.Group.{IsIndexOf}
use Rattle.lb_masks.proofs.group.index_of.Given as goal

abbrev pub invariant-loop-mask : goal.invariant-loop-mask
invariant-loop-mask l = IsIndexOf (take l.mask-index l.masks) l.index

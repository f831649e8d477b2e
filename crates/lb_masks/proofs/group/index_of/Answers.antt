use Rattle.std.proofs.Common.{List, arith, subst}
use Rattle.std.proofs.lemmas.List.{take_all}
use Rattle.lb_masks.specs.Mask.{Prefix}
use Rattle.lb_masks.specs.Group.{IsIndexOf}
use Rattle.lb_masks.proofs.Groups.{index_next}
use Rattle.lb_masks.proofs.group.index_of.Goals as goal

pub loop-mask-preserved : goal.loop-mask-preserved
loop-mask-preserved c = index_next c.args.masks.now c.loop-mask.mask-index c.mask-item.result c.loop-mask.index c.file.new.self c.loop-mask-test.true c.mask-item.is (c.in_ok-file.ensures {u = tt}).ok c.loop-mask.invariant

pub returns : goal.returns
returns c = subst (λ (masks : List Prefix). IsIndexOf masks c.loop-mask.index) (take_all c.loop-mask.mask-index c.args.masks.now (omega (arith, c.loop-mask-test.false))) c.loop-mask.invariant

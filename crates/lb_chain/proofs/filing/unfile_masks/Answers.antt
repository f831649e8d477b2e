use Rattle.std.proofs.Common.{List, arith}
use Rattle.lb_masks.specs.Index.{Pair, pair_of}
use Rattle.lb_chain.specs.FirstAsked.{at_masks}
use Rattle.lb_chain.specs.Filing.{AreWithout}
use Rattle.lb_chain.proofs.Filed.{without_end, without_next}
use Rattle.lb_chain.proofs.filing.unfile_masks.Goals as goal

pub loop-mask-init : goal.loop-mask-init
loop-mask-init c = λ new without. without

pub loop-mask-preserved : goal.loop-mask-preserved
loop-mask-preserved c =
    without_next (λ x. pair_of x c.args.rank) c.args.set.now c.loop-mask.mask-index c.mask-item.result c.loop-mask.masks c.unfile.new.self (λ (new : List Pair). AreWithout c.args.masks.now (at_masks c.args.set.now c.args.rank) new)
    c.loop-mask-test.true c.mask-item.is c.unfile.ensures c.loop-mask.invariant

pub returns : goal.returns
returns c =
    without_end (λ x. pair_of x c.args.rank) c.args.set.now c.loop-mask.mask-index c.loop-mask.masks (λ (new : List Pair). AreWithout c.args.masks.now (at_masks c.args.set.now c.args.rank) new)
    (omega (arith, c.loop-mask-test.false)) c.loop-mask.invariant

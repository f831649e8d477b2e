use Rattle.std.proofs.Common.{List, arith}
use Rattle.lb_masks.specs.Index.{Pair, pair_of}
use Rattle.lb_chain.specs.FirstAsked.{at_masks}
use Rattle.lb_chain.specs.Filing.{AreWith}
use Rattle.lb_chain.proofs.Filed.{more_next, more_none, taken_back, with_end, with_next}
use Rattle.lb_chain.proofs.filing.file_masks.Goals as goal

pub loop-mask-init : goal.loop-mask-init
loop-mask-init c = (λ new more. more, more_none c.args.masks.now (at_masks c.args.set.now c.args.rank))

pub returns-in-Err-clause-err : goal.returns-in-Err-clause-err
returns-in-Err-clause-err c = taken_back c.args.masks.now (at_masks c.args.set.now c.args.rank) c.loop-mask.masks c.file.new.self c.unfile_masks.new.masks c.loop-mask.invariant.1 (c.in-Err.ensures {u = tt}).err c.unfile_masks.ensures

pub loop-mask-preserved : goal.loop-mask-preserved
loop-mask-preserved c = (
  with_next (λ x. pair_of x c.args.rank) c.args.set.now c.loop-mask.mask-index c.mask-item.result c.loop-mask.masks c.file.new.self (λ (new : List Pair). AreWith c.args.masks.now (at_masks c.args.set.now c.args.rank) new)
      c.loop-mask-test.true c.mask-item.is (c.in_default.ensures {u = tt}).ok c.loop-mask.invariant.0,
  more_next (λ x. pair_of x c.args.rank) c.args.set.now c.loop-mask.mask-index c.mask-item.result c.args.masks.now c.loop-mask.masks c.file.new.self c.loop-mask-test.true c.mask-item.is (c.in_default.ensures {u = tt}).ok c.loop-mask.invariant.1,
)

pub returns-clause-ok : goal.returns-clause-ok
returns-clause-ok c =
    with_end (λ x. pair_of x c.args.rank) c.args.set.now c.loop-mask.mask-index c.loop-mask.masks (λ (new : List Pair). AreWith c.args.masks.now (at_masks c.args.set.now c.args.rank) new)
    (omega (arith, c.loop-mask-test.false)) c.loop-mask.invariant.0

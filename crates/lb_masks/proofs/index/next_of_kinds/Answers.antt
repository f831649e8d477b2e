use Rattle.std.proofs.Common.{refl, arith}
use Rattle.lb_masks.proofs.Looks.{kinds_all, kinds_more}
use Rattle.lb_masks.proofs.index.next_of_kinds.Goals as goal

pub loop-kind-preserved : goal.loop-kind-preserved
loop-kind-preserved c =
    kinds_more c.args.ranks.now c.args.addr.now c.args.kinds.now _ _ c.loop-kind.kind-index c.args.from c.loop-kind.best c.next_of_kind.result c.lesser-best.result c.loop-kind-test.true refl c.lesser-best.ensures c.next_of_kind.ensures c.loop-kind.invariant

pub returns : goal.returns
returns c = kinds_all c.args.ranks.now c.args.addr.now c.args.kinds.now c.loop-kind.kind-index c.args.from c.loop-kind.best (omega (arith, c.loop-kind-test.false)) c.loop-kind.invariant

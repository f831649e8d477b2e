use Rattle.std.proofs.Common.{◌<◌, length, refl, arith}
use Rattle.lb_chain.proofs.ChangedRules.{limits_next}
use Rattle.lb_chain.proofs.PartlyReserved.{some_none, some_next}
use Rattle.lb_chain.proofs.counting.reserve_limits.Goals as goal

pub loop-at-init : goal.loop-at-init
loop-at-init c = (refl, some_none c.args.passes.now c.args.addr.now c.args.now c.args.rule 0 c.args.limits.now.items)

pub loop-at-preserved : goal.loop-at-preserved
loop-at-preserved c =
    let lt : c.loop-at.at < length c.args.limits.now.items = omega arith in (
      limits_next _ c.args.passes.now c.args.rule c.args.limits.now.items c.loop-at.limits.items c.loop-at.at c.has_pass-wanted.result _ c.index_mut.result.now lt c.loop-at.invariant.0 c.index_mut.ensures.value c.has_pass-wanted.ensures c.in_ok-reserve_one.ensures.ok,
      some_next c.args.passes.now c.args.addr.now c.args.now c.args.rule c.args.limits.now.items c.loop-at.limits.items c.loop-at.at c.has_pass-wanted.result _ c.index_mut.result.now lt c.loop-at.invariant.0 c.index_mut.ensures.value c.has_pass-wanted.ensures c.in_ok-reserve_one.ensures.ok c.loop-at.invariant.1,
    )

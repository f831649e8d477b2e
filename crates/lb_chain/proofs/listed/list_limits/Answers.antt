use Rattle.std.proofs.Common.{List, ◌++◌, map, ap, ◌∙◌, arith}
use Rattle.lb_limits.specs.declared.pass.Pass.{Pass}
use Rattle.lb_chain.specs.Listed.{counted_from}
use Rattle.lb_chain.proofs.CountedFrom.{pass_at, listed_next}
use Rattle.lb_chain.proofs.listed.list_limits.Goals as goal

pub loop-at-preserved : goal.loop-at-preserved
loop-at-preserved c =
    let passes = c.as_slice.ensures.value ∙ c.in_ok-passes.ensures in
    listed_next c.args.limits.now c.loop-at.at c.index-limits-at.result c.loop-at.all.items c.list_passes.new.all.items (counted_from 0 c.args.limits.now) (omega arith) c.index-limits-at.is (c.in_ok-list_passes.ensures ∙ ap (λ (ps : List Pass). c.loop-at.all.items ++ map (pass_at c.loop-at.at) ps) passes) c.loop-at.invariant

use Rattle.std.proofs.Common.{◌∙◌, sym, arith}
use Rattle.lb_chain.proofs.ChangedRules.{limits_next}
use Rattle.lb_chain.proofs.RulesReady.{ready_there}
use Rattle.lb_chain.proofs.counting.pass_limits.Goals as goal

pub pass_one-requires-clause-ready : goal.pass_one-requires-clause-ready
pass_one-requires-clause-ready c = λ is.
    ready_there c.args.passes.now c.args.addr.now c.args.now c.args.rule c.args.limits.now.items c.loop-at.limits.items c.loop-at.at _ (omega arith) c.loop-at.invariant c.index_mut.ensures.value c.requires.ready (sym c.has_pass-wanted.ensures ∙ is)

pub loop-at-preserved : goal.loop-at-preserved
loop-at-preserved c =
    limits_next _ c.args.passes.now c.args.rule c.args.limits.now.items c.loop-at.limits.items c.loop-at.at c.has_pass-wanted.result _ c.index_mut.result.now (omega arith) c.loop-at.invariant c.index_mut.ensures.value c.has_pass-wanted.ensures c.pass_one.ensures

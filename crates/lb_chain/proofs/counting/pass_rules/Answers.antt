use Rattle.std.proofs.Common.{refl, arith}
use Rattle.lb_chain.proofs.ChangedRules.{rules_next}
use Rattle.lb_chain.proofs.PlacesFrom.{place_within, rule_past, visited_all, visited_more, visits}
use Rattle.lb_chain.proofs.RulesReady.{rule_there}
use Rattle.lb_chain.proofs.counting.pass_rules.Goals as goal

pub index_mut-requires : goal.index_mut-requires
index_mut-requires c =
    let here = visits _ c.args.passes.now c.args.rules.now.items c.loop-at.rules.items c.args.places.now c.loop-at.at-index _ c.loop-at-test.true refl c.loop-at.invariant in
    omega (arith, place_within _ c.args.passes.now c.args.rules.now.items c.loop-at.rules.items _ _ here)

pub pass_rule-requires-clause-moments : goal.pass_rule-requires-clause-moments
pass_rule-requires-clause-moments c =
    let here = visits _ c.args.passes.now c.args.rules.now.items c.loop-at.rules.items c.args.places.now c.loop-at.at-index _ c.loop-at-test.true refl c.loop-at.invariant in
    rule_past c.args.now _ c.args.passes.now c.args.rules.now.items c.loop-at.rules.items _ _ _ c.requires.moments here c.index_mut.ensures.value

pub pass_rule-requires-clause-ready : goal.pass_rule-requires-clause-ready
pass_rule-requires-clause-ready c =
    let here = visits _ c.args.passes.now c.args.rules.now.items c.loop-at.rules.items c.args.places.now c.loop-at.at-index _ c.loop-at-test.true refl c.loop-at.invariant in
    rule_there c.args.passes.now c.args.addr.now c.args.now c.args.rules.now.items c.loop-at.rules.items _ _ here.within here.so_far c.index_mut.ensures.value c.requires.ready

pub loop-at-preserved : goal.loop-at-preserved
loop-at-preserved c =
    let here = visits _ c.args.passes.now c.args.rules.now.items c.loop-at.rules.items c.args.places.now c.loop-at.at-index _ c.loop-at-test.true refl c.loop-at.invariant in
    visited_more _ c.args.passes.now c.args.rules.now.items c.loop-at.rules.items _ _ _ here
    (rules_next _ c.args.passes.now c.args.rules.now.items c.loop-at.rules.items _ _ c.index_mut.result.now here.within here.so_far c.index_mut.ensures.value c.pass_rule.ensures)

pub returns : goal.returns
returns c = visited_all _ c.args.passes.now c.args.rules.now.items c.loop-at.rules.items c.args.places.now c.loop-at.at-index c.loop-at-test.false c.loop-at.invariant

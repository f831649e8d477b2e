use Rattle.std.proofs.Common.{refl, arith}
use Rattle.lb_chain.proofs.ChangedRules.{rules_next}
use Rattle.lb_chain.proofs.PartlyReserved.{partly_none, partly_next}
use Rattle.lb_chain.proofs.PlacesFrom.{place_within, rule_past, visited_all, visited_more, visited_none, visits}
use Rattle.lb_chain.proofs.counting.reserve_rules.Goals as goal

pub loop-at-init : goal.loop-at-init
loop-at-init c = (visited_none _ c.args.passes.now c.args.rules.now.items c.args.places.now c.requires.places, partly_none c.args.passes.now c.args.addr.now c.args.now c.args.rules.now.items)

pub index_mut-requires : goal.index_mut-requires
index_mut-requires c =
    let here = visits _ c.args.passes.now c.args.rules.now.items c.loop-at.rules.items c.args.places.now c.loop-at.at-index _ c.loop-at-test.true refl c.loop-at.invariant.0 in
    omega (arith, place_within _ c.args.passes.now c.args.rules.now.items c.loop-at.rules.items _ _ here)

pub reserve_rule-requires : goal.reserve_rule-requires
reserve_rule-requires c =
    let here = visits _ c.args.passes.now c.args.rules.now.items c.loop-at.rules.items c.args.places.now c.loop-at.at-index _ c.loop-at-test.true refl c.loop-at.invariant.0 in
    rule_past c.args.now _ c.args.passes.now c.args.rules.now.items c.loop-at.rules.items _ _ _ c.requires.moments here c.index_mut.ensures.value

pub returns-in_err-reserve_rule-clause-partly : goal.returns-in_err-reserve_rule-clause-partly
returns-in_err-reserve_rule-clause-partly c =
    let here = visits _ c.args.passes.now c.args.rules.now.items c.loop-at.rules.items c.args.places.now c.loop-at.at-index _ c.loop-at-test.true refl c.loop-at.invariant.0 in
    partly_next c.args.passes.now c.args.addr.now c.args.now c.args.rules.now.items c.loop-at.rules.items _ _ c.index_mut.result.now here.within here.so_far c.index_mut.ensures.value c.reserve_rule.ensures.id c.reserve_rule.ensures.rule c.reserve_rule.ensures.partly c.loop-at.invariant.1

pub loop-at-preserved : goal.loop-at-preserved
loop-at-preserved c =
    let here = visits _ c.args.passes.now c.args.rules.now.items c.loop-at.rules.items c.args.places.now c.loop-at.at-index _ c.loop-at-test.true refl c.loop-at.invariant.0 in (
      visited_more _ c.args.passes.now c.args.rules.now.items c.loop-at.rules.items _ _ _ here
          (rules_next _ c.args.passes.now c.args.rules.now.items c.loop-at.rules.items _ _ c.index_mut.result.now here.within here.so_far c.index_mut.ensures.value c.in_ok-reserve_rule.ensures.ok),
      partly_next c.args.passes.now c.args.addr.now c.args.now c.args.rules.now.items c.loop-at.rules.items _ _ c.index_mut.result.now here.within here.so_far c.index_mut.ensures.value c.reserve_rule.ensures.id c.reserve_rule.ensures.rule c.reserve_rule.ensures.partly c.loop-at.invariant.1,
    )

pub returns-clause-ok : goal.returns-clause-ok
returns-clause-ok c = visited_all _ c.args.passes.now c.args.rules.now.items c.loop-at.rules.items c.args.places.now c.loop-at.at-index c.loop-at-test.false c.loop-at.invariant.0

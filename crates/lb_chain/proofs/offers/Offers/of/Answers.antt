use Rattle.std.proofs.Common.{arith}
use Rattle.lb_chain.proofs.Renumbered.{numbered_all, numbered_more}
use Rattle.lb_chain.proofs.Rising.{free_behind}
use Rattle.lb_chain.proofs.offers.Offers.of.Goals as goal

pub put-requires-clause-place : goal.put-requires-clause-place
put-requires-clause-place c = omega (arith, c.loop-at.invariant.2)

pub put-requires-clause-free : goal.put-requires-clause-free
put-requires-clause-free c = free_behind c.loop-at.offers.ranks.items c.loop-at.at c.loop-at.invariant.1 c.loop-at.invariant.2

pub loop-at-preserved : goal.loop-at-preserved
loop-at-preserved c =
    let old = c.loop-at.offers in
    let new = c.put.new.self in
    let put = c.in_ok-put.ensures {u = tt} in
    numbered_more c.args.rules.now c.index-rules-at.result c.loop-at.at old.names new.names old.masks new.masks old.loose new.loose old.ranks.items new.ranks.items c.loop-at-test.true c.index-rules-at.is c.loop-at.invariant put.ok put.ranks

pub returns-clause-offers : goal.returns-clause-offers
returns-clause-offers c =
    numbered_all c.args.rules.now c.loop-at.at c.loop-at.offers.names c.loop-at.offers.masks c.loop-at.offers.loose c.loop-at.offers.ranks.items c.loop-at-test.false c.loop-at.invariant.0

pub returns-clause-even : goal.returns-clause-even
returns-clause-even c = c.loop-at.invariant.1

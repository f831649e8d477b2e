use Rattle.std.proofs.Common.{◌∙◌, sym, arith}
use Rattle.std.proofs.lemmas.List.Sums.{sum_by_more}
use Rattle.lb_limits.specs.Ticks.{addresses_in}
use Rattle.lb_limits.proofs.Tallies.{out_split, out_more, out_all}
use Rattle.lb_limits.proofs.ticks.out_of.Goals as goal

pub returns-then-is_recent : goal.returns-then-is_recent
returns-then-is_recent c =
    omega (
      arith,
      c.loop-tick.invariant.0,
      out_split c.args.now c.loop-tick.tick-index c.args.ticks.now _ c.requires.order c.loop-tick-test.true c.loop-tick.invariant.1 (sym c.is_recent.ensures ∙ c.if-is_recent.true),
    )

pub loop-tick-preserved : goal.loop-tick-preserved
loop-tick-preserved c = (
  omega (arith, c.loop-tick.invariant.0, sum_by_more addresses_in c.args.ticks.now c.loop-tick.tick-index (record { moment = 0; addresses = 0 }) c.loop-tick-test.true),
  out_more c.args.now c.loop-tick.tick-index c.args.ticks.now _ c.loop-tick-test.true c.loop-tick.invariant.1 (sym c.is_recent.ensures ∙ c.if-is_recent.false),
)

pub returns : goal.returns
returns c = omega (arith, c.loop-tick.invariant.0, out_all c.args.now c.loop-tick.tick-index c.args.ticks.now c.loop-tick-test.false c.loop-tick.invariant.1)

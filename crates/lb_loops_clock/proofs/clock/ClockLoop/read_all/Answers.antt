use Rattle.std.proofs.Common.{◌+◌, arith}
use Rattle.lb_loops_clock.proofs.Going.{goes_none, goes_on, goes_within}
use Rattle.lb_loops_clock.proofs.clock.ClockLoop.read_all.Goals as goal

pub loop-init : goal.loop-init
loop-init g c = λ on. goes_none on 0 c.args.self.now c.args.tally.now.lines.items c.args.tally.now.device

pub loop-preserved : goal.loop-preserved
loop-preserved g c = λ on. goes_on on c.loop.counter 1 _ _ _ _ _ _ _ _ _ _ (c.loop.invariant on) (c.in-More.ensures.goes on)

pub returns-in-Last : goal.returns-in-Last
returns-in-Last g c =
    let lt = c.loop-test.true in
    record { goes = λ on. goes_within on (c.loop.counter + 1) 64 _ _ _ _ _ _ _ (omega (arith, lt)) (goes_on on c.loop.counter 1 _ _ _ _ _ _ _ _ _ _ (c.loop.invariant on) (c.in-Last.ensures.goes on)) }

pub returns-in-Over : goal.returns-in-Over
returns-in-Over g c =
    let lt = c.loop-test.true in
    record { goes = λ on. goes_within on (c.loop.counter + 1) 64 _ _ _ _ _ _ _ (omega (arith, lt)) (goes_on on c.loop.counter 1 _ _ _ _ _ _ _ _ _ _ (c.loop.invariant on) (c.in-Over.ensures.goes on)) }

pub returns : goal.returns
returns g c =
    let le = c.loop.auto.counter-end in
    record { goes = λ on. goes_within on c.loop.counter 64 _ _ _ _ _ _ _ (omega (arith, le)) (c.loop.invariant on) }

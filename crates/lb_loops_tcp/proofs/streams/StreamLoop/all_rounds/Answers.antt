use Rattle.std.proofs.Common.{◌+◌, arith}
use Rattle.lb_loops_tcp.proofs.Turning.{turns_within}
use Rattle.lb_loops_tcp.specs.Ends.{is_blind}
use Rattle.lb_loops_tcp.proofs.streams.StreamLoop.all_rounds.Goals as goal

pub returns-in-Some-clause-turns : goal.returns-in-Some-clause-turns
returns-in-Some-clause-turns g c =
    let lt = c.loop-test.true in
    turns_within c.args.roster.now.listed (c.loop.counter + 1) 64 (c.loop.counter + 1) 64 c.args.self.now c.one_round.new.self c.one_round.new.lines.items (is_blind c.in-Some.end) (omega (arith, lt)) (omega (arith, lt)) (c.in-Some.ensures.turned c.args.self.now c.loop.counter c.loop.invariant.0)

pub returns-in-Some-clause-reads : goal.returns-in-Some-clause-reads
returns-in-Some-clause-reads g c =
    let lt = c.loop-test.true in
    let read = c.in-Some.ensures.reads in
    let earlier = c.loop.invariant.3 in
    omega (arith, lt, read, earlier)

pub loop-preserved : goal.loop-preserved
loop-preserved g c =
    let len = c.in_default.ensures.len in
    let before = c.loop.invariant.1 in
    let room = c.loop.invariant.2 in
    let same = c.in_default.ensures.capacity in
    let read = c.in_default.ensures.reads in
    let earlier = c.loop.invariant.3 in
    (c.in_default.ensures.turned c.args.self.now c.loop.counter c.loop.invariant.0, omega (arith, len, before), omega (arith, room, same), omega (arith, read, earlier))

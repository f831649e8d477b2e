use Rattle.std.proofs.Common.{rules, ◌+◌, [], None, option_to_list, arith}
use Rattle.lb_loops_udp.specs.Turn.{Round}
use Rattle.lb_loops_udp.proofs.Rounds.{first_stays, turns_none, turns_on, turns_within}
use Rattle.lb_loops_udp.proofs.datagrams.DatagramLoop.all_rounds.Goals as goal

pub loop-init : goal.loop-init
loop-init g c = (rw c.requires.empty.0 (turns_none c.args.self.now), search rules, search rules, omega arith)

pub returns-in-Err-clause-turned : goal.returns-in-Err-clause-turned
returns-in-Err-clause-turned g c =
    let inv = c.loop.invariant in
    let old = c.args.self.now in
    let mid = c.loop.self in
    let new = c.one_round.new.self in
    let round : Round mid new c.loop.lines.items c.one_round.new.lines.items [] None = c.in-Err.ensures.refused in
    rw c.report.ensures (rw round.put (turns_within (c.loop.counter + 1) 64 old new _ _ _ (omega arith)
    (turns_on c.loop.counter 1 old mid new c.loop.lines.items round.more [] c.loop.device None c.loop.device inv.0 round.turns
    (first_stays c.loop.device old.failures mid.failures new.failures old.outside mid.outside new.outside inv.1 inv.0.first round.turns.first))))

pub returns-then-is_last-clause-turned : goal.returns-then-is_last-clause-turned
returns-then-is_last-clause-turned g c =
    let inv = c.loop.invariant in
    let old = c.args.self.now in
    let mid = c.loop.self in
    let new = c.one_round.new.self in
    let round : Round mid new c.loop.lines.items c.one_round.new.lines.items (option_to_list c.in-Ok.step.held) c.in-Ok.step.device = c.in-Ok.ensures.turned in
    let first = c.first_fault-device.ensures.first _ _ _ _ _ _ inv.1 inv.0.first round.turns.first in
    rw c.report-then-is_last.ensures (rw round.put (turns_within (c.loop.counter + 1) 64 old new _ _ _ (omega arith) (turns_on c.loop.counter 1 old mid new c.loop.lines.items round.more (option_to_list c.in-Ok.step.held) c.loop.device c.in-Ok.step.device _ inv.0 round.turns first)))

pub loop-preserved : goal.loop-preserved
loop-preserved g c =
    let inv = c.loop.invariant in
    let old = c.args.self.now in
    let mid = c.loop.self in
    let new = c.one_round.new.self in
    let clear = c.in-Ok.ensures.clear c.if-is_last.false in
    let round : Round mid new c.loop.lines.items c.one_round.new.lines.items (option_to_list c.in-Ok.step.held) c.in-Ok.step.device = c.in-Ok.ensures.turned in
    let quiet : Round mid new c.loop.lines.items c.one_round.new.lines.items [] c.in-Ok.step.device = rw clear.0 at round in
    let first = c.first_fault-device.ensures.first _ _ _ _ _ _ inv.1 inv.0.first quiet.turns.first in (
      rw quiet.put (turns_on c.loop.counter 1 old mid new c.loop.lines.items quiet.more [] c.loop.device c.in-Ok.step.device _ inv.0 quiet.turns first),
      c.first_fault-device.ensures.clear inv.1 clear.1,
      search rules,
      search rules,
    )

use Rattle.std.proofs.Common.{◌≢◌, ◌≤◌, [], Some, vec_capacity, vec_len}
use Rattle.lb_loops_udp.specs.Turn.{Turns}
use Rattle.lb_loops_io.specs.declared.report.DeviceFault.TheVariants as devices
use Rattle.lb_loops_udp.proofs.datagrams.DatagramLoop.all_rounds.Given as goal

abbrev pub invariant-loop : goal.invariant-loop
invariant-loop g l = Turns l.counter l.fn.self l.self l.lines.items [] l.device × (l.device ≢ Some devices.Outside) × (vec_len l.lines ≤ l.counter) × (64 ≤ vec_capacity l.lines)

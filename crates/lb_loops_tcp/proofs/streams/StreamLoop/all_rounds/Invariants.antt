use Rattle.std.proofs.Common.{◌≤◌, ◌*◌, ◌+◌, false, vec_capacity, vec_len}
use Rattle.lb_loops_tcp.specs.Goes.{reads_of}
use Rattle.lb_loops_tcp.specs.Turn.{Turns}
use Rattle.lb_loops_tcp.proofs.streams.StreamLoop.all_rounds.Given as goal

abbrev pub invariant-loop : goal.invariant-loop
invariant-loop g l = Turns l.roster.listed l.counter l.counter l.fn.self l.self l.lines.items false × (vec_len l.lines ≤ 2 * l.counter) × (128 ≤ vec_capacity l.lines) × (reads_of l.self.net ≤ reads_of l.fn.self.net + l.counter)

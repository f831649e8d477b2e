use Rattle.std.proofs.Common.{◌≡◌, ◌≤◌, None, replicate, vec_capacity, vec_len}
use Rattle.lb_loops_connections.proofs.table.Connections.made.Given as goal

abbrev pub invariant-loop : goal.invariant-loop
invariant-loop l = (l.slots.items ≡ replicate l.counter None) × (vec_len l.slots ≡ l.counter) × (4096 ≤ vec_capacity l.slots)

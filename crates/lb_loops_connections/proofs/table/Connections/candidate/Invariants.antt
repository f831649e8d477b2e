use Rattle.std.proofs.Common.{◌≡◌, ◌+◌}
use Rattle.lb_loops_connections.proofs.table.Connections.candidate.Given as goal
use Rattle.lb_loops_connections.specs.Table.{Narrows, firsts}

abbrev pub invariant-loop : goal.invariant-loop
invariant-loop l =
    Narrows l.fn.self (record { next = l.self-inside.last + 1; slots = l.self-inside.slots.items; refusals = firsts l.self-inside.refusals.items })
    × (l.self-inside.last + 1 ≡ l.fn.self.next + l.counter)

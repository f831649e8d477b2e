use Rattle.std.proofs.Common.{◌≡◌, ◌≤◌, ◌++◌, ◌+◌, length, reverse, vec_len, vec_capacity}
use Rattle.lb_index_ranks.proofs.chunk.Chunk.divide.Given as goal

abbrev pub invariant-pairs : goal.invariant-pairs
invariant-pairs l =
    (l.self-inside.items.items ++ reverse l.upper.items ≡ l.initial.self-inside.items.items)
    × (vec_len l.upper + vec_len l.self-inside.items ≤ vec_capacity l.upper + 32)
    × (32 ≤ length l.self-inside.items.items)

abbrev pub decreases-pairs : goal.decreases-pairs
decreases-pairs l = vec_len l.self-inside.items

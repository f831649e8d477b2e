use Rattle.std.proofs.Common.{◌≡◌, ◌≤◌, ◌+◌, ◌-◌, ◌++◌, take, drop, vec_len, vec_capacity}
use Rattle.lb_index_ranks.proofs.blocks.take_blocks.Given as goal

abbrev pub invariant-moved : goal.invariant-moved
invariant-moved l =
    (l.blocks.items ≡ take l.from l.fn.blocks.items ++ drop l.counter l.fn.blocks.items)
    × (l.cut.items ≡ take (l.counter - l.from) (drop l.from l.fn.blocks.items))
    × (l.from ≤ l.counter)
    × (l.counter ≤ l.to)
    × (vec_len l.cut + (l.to - l.counter) ≤ vec_capacity l.cut)
    × (vec_len l.blocks + (l.counter - l.from) ≡ vec_len l.fn.blocks)

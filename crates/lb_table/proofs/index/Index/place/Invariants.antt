use Rattle.std.proofs.Common.{ℕ, ◌<◌, List}
use Rattle.lb_table.specs.declared.entry.Waiting.{Waiting}
use Rattle.lb_table.specs.Held.{queries}
use Rattle.lb_table.specs.Index.{Tells}
use Rattle.lb_table.specs.Table.{IsFull, lane_after}
use Rattle.lb_table.proofs.index.Index.place.Given as goal

-- each lane that was looked at is full
abbrev pub invariant-loop-m : goal.invariant-loop-m
invariant-loop-m l = (line : List (ℕ × Waiting)) → Tells l.self line → (j : ℕ) → j < l.m → IsFull (queries line) l.server (lane_after l.kind l.lanes l.word j)

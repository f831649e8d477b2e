use Rattle.std.proofs.Common.{ℕ, ◌≤◌, List, length, drop}
use Rattle.std.specs.List.{AllByRecursion}
use Rattle.lb_wire.specs.Record.{Record, Holds}
use Rattle.lb_wire.specs.Aging.{Outlives}
use Rattle.lb_wire.proofs.Aged.{SoFar}
use Rattle.lb_wire.proofs.aging.age_records.Given as goal

-- whatever so many records stood there, so many of them are older
abbrev pub invariant-records : goal.invariant-records
invariant-records l =
    (l.place ≤ length l.bytes)
    × ((records : List Record) (rest : List ℕ) → Holds l.count (drop l.at l.fn.bytes) records rest → AllByRecursion (Outlives l.secs) records → SoFar l.fn.bytes l.bytes l.at l.secs l.counter l.place records rest)

use Rattle.std.proofs.Common.{◌≡◌, ◌≤◌, ◌-◌, List, length, drop}
use Rattle.lb_wire.specs.Record.{Record, Holds}
use Rattle.lb_wire.specs.Tally.{tally_of}
use Rattle.lb_wire.proofs.Holds.{LeavesOf}
use Rattle.lb_wire.proofs.record.walk.Given as goal

-- so many records stand there and come to the tally, and what is left are the others of any such division
abbrev pub invariant-records : goal.invariant-records
invariant-records l =
    (l.place ≤ length l.bytes)
    × ((records : List Record) × Holds l.counter (drop l.at l.bytes) records (drop l.place l.bytes) × (l.tally ≡ tally_of records))
    × LeavesOf l.count (l.count - l.counter) (drop l.at l.bytes) (drop l.place l.bytes)

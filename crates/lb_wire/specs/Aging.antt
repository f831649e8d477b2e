-- Messages some seconds later.
use Rattle.std.specs.Prelude.{◌≡◌, ℕ, ◌+◌, ◌-◌, ◌≤◌, false, None, Some, List, ◌++◌, drop, length, take, map, if◌then◌else◌}
use Rattle.std.specs.List.{flat_map, AllByRecursion}
use Rattle.lb_wire.specs.Record.{IsRecord, Record, record_octets}
use Rattle.lb_wire.specs.Opt.{is_opt, ttl_value, least_ttl}
use Rattle.lb_wire.specs.Message.{Message}

-- the record lives so many seconds at least, or is an OPT
abbrev pub Outlives : ℕ → Record → Type 0
Outlives secs r = is_opt r ≡ false → secs ≤ ttl_value r.ttl

-- the record so many seconds later: its TTL is lowered, unless it is an OPT
abbrev pub aged_record : ℕ → Record → Record
aged_record secs r = record r { ttl = if is_opt r then r.ttl else r.ttl - secs }

-- the record that stood at a place is so many seconds older, all before and after it is as it was,
-- and it ends at the other place
abbrev pub IsAgedAt : List ℕ → ℕ → ℕ → List ℕ → ℕ → Type 0
IsAgedAt old at secs new end = (r : Record) (rest : List ℕ) → IsRecord r → drop at old ≡ record_octets r ++ rest → (new ≡ take at old ++ (record_octets (aged_record secs r) ++ rest)) × (end ≡ at + length (record_octets r))

-- every record outlives the least TTL of them all
abbrev pub LeastIsOutlived : Type 0
LeastIsOutlived = (secs n : ℕ) (records : List Record) → least_ttl records ≡ Some n → secs ≤ n → AllByRecursion (Outlives secs) records

-- where there is no least TTL, the records are OPT alone, and outlive any time
abbrev pub NoneIsOutlived : Type 0
NoneIsOutlived = (secs : ℕ) (records : List Record) → least_ttl records ≡ None → AllByRecursion (Outlives secs) records

-- the message so many seconds later
abbrev pub aged : ℕ → Message → Message
aged secs m = record m { records = map (aged_record secs) m.records }

-- the records that stood at a place are so many seconds older; all before and after them is as it was
abbrev pub Aged : List ℕ → ℕ → ℕ → List Record → List ℕ → List ℕ → Type 0
Aged old at secs records rest new = new ≡ take at old ++ (flat_map record_octets (map (aged_record secs) records) ++ rest)

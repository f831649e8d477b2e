-- What the records of a message come to.
use Rattle.std.specs.Prelude.{◌≡◌, ℕ, List, take}
use Rattle.lb_wire.specs.Record.{Record, Holds}
use Rattle.lb_wire.specs.Message.{count_of}
use Rattle.lb_wire.specs.Tally.{tally_of}
use Rattle.lb_wire.specs.declared.header.Header.{Header}
use Rattle.lb_wire.specs.declared.layout.Laid.{Laid}

-- as many records as the header counts stand at the front of the octets: this is what those of the answer section come to, and
-- what all of them do
abbrev pub IsLaid : Header → List ℕ → Laid → Type 0
IsLaid header octets laid = (records : List Record) × (rest : List ℕ) × Holds (count_of header) octets records rest × (laid.answers ≡ tally_of (take header.answers records)) × (laid.all ≡ tally_of records)

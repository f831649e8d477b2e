-- The OPT pseudo-record (RFC 6891 section 6.1) and times to live (RFC 2181 section 8).
use Rattle.std.specs.Prelude.{ℕ, ◌/◌, ◌%◌, ◌^◌, Bool, true, false, List, [], ◌∷◌, Option, None, Some, ◌==◌, nat_lt, min, map, filter, if◌then◌else◌}
use Rattle.lb_wire.specs.Record.{Record, record_octets}
use Rattle.lb_wire.specs.declared.opt.Opt.{Opt}

-- the type OPT (RFC 6891 section 6.1.1)
abbrev pub opt_type : ℕ
opt_type = 41

-- what DO counts for in the TTL of an OPT: it is the 17th of its bits (RFC 3225 section 3, RFC 6891 section 6.1.3)
abbrev pub dnssec_ok : ℕ
dnssec_ok = 2 ^ 15

-- the payload size that a made answer states, in octets
abbrev pub payload_size : ℕ
payload_size = 1232

-- a record of type 41 is an OPT. RFC 6891 has it among the additional records (section 6.1.1), and
-- with the root as its owner (section 6.1.2). Here it counts in any section and whatever its owner
abbrev pub is_opt : Record → Bool
is_opt r = r.rtype == opt_type

-- every other record
abbrev pub is_other : Record → Bool
is_other r = if is_opt r then false else true

-- the OPT records among them
abbrev pub opts : List Record → List Record
opts records = filter is_opt records

-- what an OPT says
abbrev pub opt_of : Record → Opt
opt_of r = record { dnssec_ok = r.ttl / dnssec_ok % 2 == 1 }

-- what the first of the OPT records says
abbrev pub first_opt : List Record → Option Opt
first_opt [] = None
first_opt (r ∷ records) = Some (opt_of r)

-- the OPT of a made answer: the root as its owner, the payload size stated, DO copied, all else 0, no options
abbrev pub opt_record : Opt → Record
opt_record opt = record {
  owner = record { labels = []; pointer = None };
  rtype = opt_type;
  class = payload_size;
  ttl = if opt.dnssec_ok then dnssec_ok else 0;
  rdata = [];
}

-- the OPT of the answer to a query with this OPT, on the wire
abbrev pub opt_octets : Option Opt → List ℕ
opt_octets None = []
opt_octets (Some opt) = record_octets (opt_record opt)

-- how many OPT records the answer has
abbrev pub opt_number : Option Opt → ℕ
opt_number None = 0
opt_number (Some opt) = 1

-- a TTL with the top bit set is read as 0 (RFC 2181 section 8)
abbrev pub ttl_value : ℕ → ℕ
ttl_value ttl = if nat_lt ttl (2 ^ 31) then ttl else 0

-- the lesser of two numbers that may be missing
abbrev pub lesser : Option ℕ → Option ℕ → Option ℕ
lesser None other = other
lesser (Some n) None = Some n
lesser (Some n) (Some m) = Some (min n m)

-- the least number, where there is one
abbrev pub least : List ℕ → Option ℕ
least [] = None
least (n ∷ ns) = lesser (Some n) (least ns)

-- the least TTL of the records, OPT left aside
abbrev pub least_ttl : List Record → Option ℕ
least_ttl records = least (map (λ r. ttl_value r.ttl) (filter is_other records))

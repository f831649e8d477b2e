-- Answers that the balancer makes by itself (RFC 1035 section 4.1, RFC 6891 section 6.1.1).
use Rattle.std.specs.Prelude.{ℕ, List, [], ◌++◌, length, Bool, Some, ◌==◌, ◌||◌, map, filter}
use Rattle.std.specs.List.{flat_map}
use Rattle.lb_wire.specs.BigEndian.{number_at}
use Rattle.lb_wire.specs.Flags.{answer_flags}
use Rattle.lb_wire.specs.Record.{Owner, Record, record_octets}
use Rattle.lb_wire.specs.Opt.{opt_octets, opt_number}
use Rattle.lb_wire.specs.Message.{header_octets, question_octets}
use Rattle.lb_wire.specs.declared.header.Header.{Header}
use Rattle.lb_wire.specs.declared.flags.Flags.{Flags}
use Rattle.lb_wire.specs.declared.addr.Addr.{Addr}
use Rattle.lb_wire.specs.declared.addr.Addr.TheVariants.{V4, V6}
use Rattle.lb_wire.specs.declared.query.QueryView.{QueryView}

-- the header of a made answer: no authority record, and an OPT alone as additional
abbrev pub made_header : ℕ → Flags → ℕ → ℕ → ℕ → Header
made_header id flags questions answers additionals = record { id = id; flags = flags; questions = questions; answers = answers; authorities = 0; additionals = additionals }

-- the answer to a query without answer records: a header, the question octet for octet, and an OPT if the query had one
abbrev pub made_of : QueryView → ℕ → List ℕ
made_of view flags = header_octets (made_header view.id (record { 0 = flags }) 1 0 (opt_number view.opt)) ++ (question_octets view.name view.qtype view.qclass ++ opt_octets view.opt)

-- the refusal of a query with this RCODE
abbrev pub refusal_of : QueryView → ℕ → List ℕ
refusal_of view rcode = made_of view (answer_flags view.flags.0 0 rcode)

-- the truncated answer: TC 1, RCODE 0
abbrev pub truncated_of : QueryView → List ℕ
truncated_of view = made_of view (answer_flags view.flags.0 1 0)

-- the answer to a malformed query: a bare header with RCODE 1
abbrev pub formerr_of : List ℕ → List ℕ
formerr_of bytes = header_octets (made_header (number_at bytes 0) (record { 0 = answer_flags (number_at bytes 2) 0 1 }) 0 0 0)

-- the types A and AAAA, the question's type ANY, and the class IN (RFC 1035 sections 3.2.2, 3.2.3 and 3.2.4, RFC 3596
-- section 2.1)
abbrev pub a_type : ℕ
a_type = 1

abbrev pub aaaa_type : ℕ
aaaa_type = 28

abbrev pub any_type : ℕ
any_type = 255

abbrev pub in_class : ℕ
in_class = 1

-- how long a client may keep a stated address: 60 seconds
abbrev pub address_ttl : ℕ
address_ttl = 60

-- an owner that points to the question name, which stands at octet 12 (RFC 1035 section 4.1.4)
abbrev pub asked_owner : Owner
asked_owner = record { labels = []; pointer = Some 12 }

-- the record of an address (RFC 1035 section 3.4.1, RFC 3596 section 2.2)
abbrev pub address_record : Addr → Record
address_record (V4 octets) = record { owner = asked_owner; rtype = a_type; class = in_class; ttl = address_ttl; rdata = octets }
address_record (V6 octets) = record { owner = asked_owner; rtype = aaaa_type; class = in_class; ttl = address_ttl; rdata = octets }

-- whether an address answers a question of a type: V4 for A, V6 for AAAA, both for ANY
abbrev pub fits_type : ℕ → Addr → Bool
fits_type qtype (V4 octets) = qtype == a_type || qtype == any_type
fits_type qtype (V6 octets) = qtype == aaaa_type || qtype == any_type

-- the answer records of a spoofed answer: one for each address that fits, in their order
abbrev pub spoof_records : ℕ → List Addr → List Record
spoof_records qtype addrs = map address_record (filter (fits_type qtype) addrs)

-- the spoofed answer: TC 0, RCODE 0, the question, the answer records, then the OPT if the query had one
abbrev pub spoofed_of : QueryView → List Addr → List ℕ
spoofed_of view addrs =
    header_octets (made_header view.id (record { 0 = answer_flags view.flags.0 0 0 }) 1 (length (spoof_records view.qtype.0 addrs)) (opt_number view.opt))
    ++ (question_octets view.name view.qtype view.qclass ++ (flat_map record_octets (spoof_records view.qtype.0 addrs) ++ opt_octets view.opt))

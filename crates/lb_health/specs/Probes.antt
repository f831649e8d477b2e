-- Probes: a query for the address of a root server, and which reply answers it (RFC 1035 section 4.1).
use Rattle.std.specs.Prelude.{ℕ, Bool, true, false, not, ◌==◌, ◌&&◌, List, [], ◌∷◌, ◌++◌, Result, Ok, Err, codes}
use Rattle.lb_wire.specs.Belongs.{belongs}
use Rattle.lb_wire.specs.BigEndian.{two_octets}
use Rattle.lb_wire.specs.Message.{question_octets}
use Rattle.lb_wire.specs.declared.rcode.Rcode.{Rcode}
use Rattle.lb_wire.specs.declared.rcode.Rcode.TheVariants as rcodes
use Rattle.lb_wire.specs.declared.record_type.Class.{Class}
use Rattle.lb_wire.specs.declared.record_type.RecordType.{RecordType}
use Rattle.lb_wire.specs.declared.reply.ReplyView.{ReplyView}
use Rattle.lb_wire.specs.declared.reply.ReplyFault.{ReplyFault}

-- the question that a probe asks: a.root-servers.net, A, IN
abbrev pub probe_name : List (List ℕ)
probe_name = codes "a" ∷ codes "root-servers" ∷ codes "net" ∷ []

abbrev pub probe_type : RecordType
probe_type = record { 0 = 1 }

abbrev pub probe_class : Class
probe_class = record { 0 = 1 }

-- what stands between the ID and the question of a probe: flags with RD alone, QDCOUNT 1, and no records (section 4.1.1)
abbrev pub probe_header : List ℕ
probe_header = 1 ∷ 0 ∷ 0 ∷ 1 ∷ 0 ∷ 0 ∷ 0 ∷ 0 ∷ 0 ∷ 0 ∷ []

-- the probe with this ID: a query with RD and that question
abbrev pub probe_octets : ℕ → List ℕ
probe_octets word = two_octets word ++ probe_header ++ question_octets probe_name probe_type probe_class

-- whether an RCODE shows that a server works: ServFail does not, and NXDomain and Refused do not where names have to be
-- resolved
abbrev pub is_working : Bool → Rcode → Bool
is_working must_resolve rcodes.ServFail = false
is_working must_resolve rcodes.NXDomain = not must_resolve
is_working must_resolve rcodes.Refused = not must_resolve
is_working must_resolve _ = true

-- whether bytes that read so are the answer to a probe: a reply with its ID that belongs to its question, with an RCODE
-- that shows that the server works
abbrev pub judged : ℕ → Bool → Result ReplyView ReplyFault → Bool
judged word must_resolve (Err fault) = false
judged word must_resolve (Ok view) =
    view.id == word && (belongs view probe_name probe_type probe_class && is_working must_resolve view.rcode)

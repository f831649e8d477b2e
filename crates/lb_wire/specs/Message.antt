-- The layout of a message with one question (RFC 1035 section 4.1).
use Rattle.std.specs.Prelude.{◌≡◌, ℕ, ◌+◌, ◌<◌, ◌^◌, List, ◌++◌, length}
use Rattle.std.specs.List.{flat_map, AllByRecursion}
use Rattle.lb_name.specs.Name.{wire_of, IsName}
use Rattle.lb_wire.specs.BigEndian.{two_octets}
use Rattle.lb_wire.specs.Record.{Record, record_octets, IsRecord}
use Rattle.lb_wire.specs.declared.header.Header.{Header}
use Rattle.lb_wire.specs.declared.record_type.RecordType.{RecordType}
use Rattle.lb_wire.specs.declared.record_type.Class.{Class}

-- the header on the wire: six numbers (section 4.1.1)
abbrev pub header_octets : Header → List ℕ
header_octets h = two_octets h.id ++ (two_octets h.flags.0 ++ (two_octets h.questions ++ (two_octets h.answers ++ (two_octets h.authorities ++ two_octets h.additionals))))

-- the numbers of a header fit their octets
pub record IsHeader (h : Header) : Type 0 where
  pub id : h.id < 2 ^ 16
  pub flags : h.flags.0 < 2 ^ 16
  pub questions : h.questions < 2 ^ 16
  pub answers : h.answers < 2 ^ 16
  pub authorities : h.authorities < 2 ^ 16
  pub additionals : h.additionals < 2 ^ 16

-- how many records the header counts
abbrev pub count_of : Header → ℕ
count_of h = h.answers + h.authorities + h.additionals

-- a question on the wire: a name without a pointer, a type and a class (section 4.1.2)
abbrev pub question_octets : List (List ℕ) → RecordType → Class → List ℕ
question_octets name qtype qclass = wire_of name ++ (two_octets qtype.0 ++ two_octets qclass.0)

-- the parts of a message
pub record Message : Type 0 where
  pub header : Header
  pub name : List (List ℕ)
  pub qtype : RecordType
  pub qclass : Class
  pub records : List Record
  pub rest : List ℕ

-- a message on the wire: header, question, records, and what follows the last counted record
abbrev pub message_octets : Message → List ℕ
message_octets m = header_octets m.header ++ (question_octets m.name m.qtype m.qclass ++ (flat_map record_octets m.records ++ m.rest))

-- the bytes are these parts: QDCOUNT is 1, and as many records stand there as the header counts
pub record Lays (bytes : List ℕ) (m : Message) : Type 0 where
  pub header : IsHeader m.header
  pub questions : m.header.questions ≡ 1
  pub name : IsName m.name
  pub qtype : m.qtype.0 < 2 ^ 16
  pub qclass : m.qclass.0 < 2 ^ 16
  pub each : AllByRecursion IsRecord m.records
  pub number : length m.records ≡ count_of m.header
  pub parts : bytes ≡ message_octets m

-- bytes have at most one such division
abbrev pub OneMessage : Type 0
OneMessage = (bytes : List ℕ) (a b : Message) → Lays bytes a → Lays bytes b → a ≡ b

-- Which reply belongs to a query (RFC 1035 section 7.3), once its server, lane and ID are those that the query was sent by.
use Rattle.std.specs.Prelude.{ℕ, Bool, true, false, ◌==◌, ◌&&◌, ◌||◌, List, Option, None, Some, bytes_eq}
use Rattle.lb_name.specs.Name.{wire_of, lower_name, IsSame}
use Rattle.lb_wire.specs.declared.question.Question.{Question}
use Rattle.lb_wire.specs.declared.record_type.RecordType.{RecordType}
use Rattle.lb_wire.specs.declared.record_type.Class.{Class}
use Rattle.lb_wire.specs.declared.rcode.Rcode.{Rcode}
use Rattle.lb_wire.specs.declared.rcode.Rcode.TheVariants as rcodes
use Rattle.lb_wire.specs.declared.reply.ReplyView.{ReplyView}

-- whether two names are equal without regard to the case of ASCII letters: their octets on the wire are, in lower case
-- (RFC 4343 section 3)
abbrev pub same_name : List (List ℕ) → List (List ℕ) → Bool
same_name a b = bytes_eq (wire_of (lower_name a)) (wire_of (lower_name b))

-- whether the question of a reply is the one that was asked; a question that does not read is not
abbrev pub same_question : Option Question → List (List ℕ) → RecordType → Class → Bool
same_question None name qtype qclass = false
same_question (Some q) name qtype qclass = same_name q.name name && (q.qtype.0 == qtype.0 && q.qclass.0 == qclass.0)

-- whether a reply without a question may tell of a failure: some servers leave the question out of an error, but what says
-- that a name is there or not has to say which
abbrev pub is_failure : Rcode → Bool
is_failure rcodes.NoError = false
is_failure rcodes.NXDomain = false
is_failure _ = true

-- whether a reply belongs to a question: it has this one question, or it has none and tells of a failure
abbrev pub belongs : ReplyView → List (List ℕ) → RecordType → Class → Bool
belongs reply name qtype qclass =
    (reply.questions == 1 && same_question reply.question name qtype qclass) || (reply.questions == 0 && is_failure reply.rcode)

-- the question of a reply is there, and its name is this one without regard to case
abbrev pub AsksSame : Option Question → List (List ℕ) → Type 0
AsksSame None name = ⊥
AsksSame (Some q) name = IsSame q.name name

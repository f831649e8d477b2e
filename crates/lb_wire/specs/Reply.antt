-- Replies (RFC 1035 section 4.1): their header and question, and how long their records live.
use Rattle.std.specs.Prelude.{◌≡◌, ℕ, ◌+◌, ◌<◌, ◌≤◌, ◌^◌, List, ◌++◌, length, take, drop, Option, None, Some, Result, Ok, Err, ◌==◌}
use Rattle.lb_name.specs.Name.{wire_of}
use Rattle.lb_wire.specs.BigEndian.{number_at}
use Rattle.lb_wire.specs.Flags.{opcode_of, tc_of, rcode_of}
use Rattle.lb_wire.specs.Numbers.{opcode_number, rcode_number}
use Rattle.lb_wire.specs.Opt.{least_ttl}
use Rattle.lb_wire.specs.Message.{Message, Lays}
use Rattle.lb_wire.specs.Question.{Asks}
use Rattle.lb_wire.specs.declared.question.Question.{Question}
use Rattle.lb_wire.specs.declared.reply.ReplyView.{ReplyView}
use Rattle.lb_wire.specs.declared.reply.ReplyFault.{ReplyFault}
use Rattle.lb_wire.specs.declared.reply.ReplyFault.TheVariants as faults
use Rattle.lb_wire.specs.declared.tally.Survey.{Survey}

-- the question that a reply with this QDCOUNT repeats: there exactly where QDCOUNT is not 0 and one stands there
abbrev pub Repeats : List ℕ → ℕ → Option Question → Type 0
Repeats octets questions (Some q) = (0 < questions) × ((rest : List ℕ) × Asks octets q rest)
Repeats octets questions None = 0 < questions → (q : Question) (rest : List ℕ) → Asks octets q rest → ⊥

-- the header and the question of a reply
pub record Replies (bytes : List ℕ) (view : ReplyView) : Type 0 where
  pub long : 12 ≤ length bytes
  pub response : 2 ^ 15 ≤ number_at bytes 2
  pub id : view.id ≡ number_at bytes 0
  pub opcode : opcode_number view.opcode ≡ opcode_of (number_at bytes 2)
  pub truncated : view.truncated ≡ (tc_of (number_at bytes 2) == 1)
  pub rcode : rcode_number view.rcode ≡ rcode_of (number_at bytes 2)
  pub questions : view.questions ≡ number_at bytes 4
  pub question : Repeats (drop 12 bytes) view.questions view.question

-- what the bytes read as: a reply; or Short, with fewer than 12 octets; or NotReply, where QR is 0
abbrev pub ReadsReply : List ℕ → Result ReplyView ReplyFault → Type 0
ReadsReply bytes (Ok view) = Replies bytes view
ReadsReply bytes (Err faults.Short) = length bytes < 12
ReadsReply bytes (Err faults.NotReply) = (12 ≤ length bytes) × (number_at bytes 2 < 2 ^ 15)

-- the least TTLs of a message: of all its records, and of its answer section; OPT is left aside
abbrev pub survey_of : Message → Survey
survey_of m = record { least_all = least_ttl m.records; least_answer = least_ttl (take m.header.answers m.records) }

-- what a survey of the bytes gives: None exactly where they are not the parts of a message
abbrev pub Surveys : List ℕ → Option Survey → Type 0
Surveys bytes (Some survey) = (m : Message) × Lays bytes m × (survey ≡ survey_of m)
Surveys bytes None = (m : Message) → Lays bytes m → ⊥

-- the octets with another spelling of the question name, of the same length, in place of the one after the header
abbrev pub respelled : List (List ℕ) → List ℕ → List ℕ
respelled name bytes = take 12 bytes ++ (wire_of name ++ drop (12 + length (wire_of name)) bytes)

-- bytes read as a reply in at most one way
abbrev pub OneReplyReading : Type 0
OneReplyReading = (bytes : List ℕ) (a b : Result ReplyView ReplyFault) → ReadsReply bytes a → ReadsReply bytes b → a ≡ b

-- bytes have at most one survey
abbrev pub OneSurvey : Type 0
OneSurvey = (bytes : List ℕ) (a b : Option Survey) → Surveys bytes a → Surveys bytes b → a ≡ b

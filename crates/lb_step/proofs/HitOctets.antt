-- The octets of a hit, step by step: aged, respelled, and with another ID.
use Rattle.std.proofs.Common.{◌≡◌, ℕ, List, ◌++◌, drop, take, ◌∙◌, ap}
use Rattle.std.specs.List.{flat_map}
use Rattle.lb_name.specs.Name.{IsSame}
use Rattle.lb_wire.specs.Aging.{aged}
use Rattle.lb_wire.specs.BigEndian.{two_octets}
use Rattle.lb_wire.specs.Message.{Message, Lays, message_octets, question_octets}
use Rattle.lb_wire.specs.Question.{Asks}
use Rattle.lb_wire.specs.Record.{record_octets}
use Rattle.lb_wire.specs.declared.question.Question.{Question}
use Rattle.lb_wire.specs.declared.query.QueryView.{QueryView}
use Rattle.lb_step.specs.Look.{answering}

-- the question of a message, and what stands after it
abbrev pub question_of : Message → Question
question_of m = record { name = m.name; qtype = m.qtype; qclass = m.qclass }

abbrev pub behind : Message → List ℕ
behind m = flat_map record_octets m.records ++ m.rest

-- an aged message has the question that it had
pub asks_still : (secs : ℕ) (kept octets : List ℕ) (m : Message) → Lays kept m → octets ≡ message_octets (aged secs m) → Asks (drop 12 octets) (question_of m) (behind (aged secs m))
asks_still secs kept octets m lays is =
    record { name = lays.name; qtype = lays.qtype; qclass = lays.qclass; parts = ap (drop 12) is }

-- aged, respelled and with the ID of a query, it is the answer
pub answers_as : (secs : ℕ) (view : QueryView) (kept old spelled octets : List ℕ) (m : Message) → Lays kept m → old ≡ message_octets (aged secs m) → IsSame m.name view.name →
    ((q : Question) (rest : List ℕ) → Asks (drop 12 old) q rest → IsSame q.name view.name → spelled ≡ take 12 old ++ (question_octets view.name q.qtype q.qclass ++ rest)) →
    octets ≡ two_octets view.id ++ drop 2 spelled → octets ≡ message_octets (answering view secs m)
answers_as secs view kept old spelled octets m lays is same spell restored =
    let said = spell (question_of m) (behind (aged secs m)) (asks_still secs kept old m lays is) same in
    restored
    ∙ ap (λ (bytes : List ℕ). two_octets view.id ++ drop 2 bytes) said
    ∙ ap (λ (bytes : List ℕ). two_octets view.id ++ drop 2 (take 12 bytes ++ (question_octets view.name m.qtype m.qclass ++ behind (aged secs m)))) is

-- The parts of a message, found one after the other.
use Rattle.std.proofs.Common.{◌≡◌, ℕ, zero, suc, ◌+◌, List, [], ◌∷◌, ◌++◌, take, drop, sym, ◌∙◌, ap, arith}
use Rattle.std.proofs.lemmas.List.{append_assoc, take-append-drop, length-take-le, length-drop}
use Rattle.std.proofs.lemmas.Grind.{flat_map-append}
use Rattle.std.specs.List.{flat_map, AllByRecursion}
use Rattle.lb_name.specs.Laws.{LabelsGoOn}
use Rattle.lb_wire.specs.Record.{Record, record_octets, IsRecord, Holds}
use Rattle.lb_wire.specs.Message.{Message, Lays, IsHeader, header_octets, question_octets, count_of}
use Rattle.lb_wire.specs.Question.{Asks}
use Rattle.lb_wire.specs.declared.header.Header.{Header}
use Rattle.lb_wire.specs.declared.question.Question.{Question}
use Rattle.lb_wire.proofs.OneMessage.{one_header, one_question, one_list}

-- a header and a question stand there, and records may follow
pub record Opens (bytes : List ℕ) (h : Header) (q : Question) (place : ℕ) : Type 0 where
  pub fits : IsHeader h
  pub front : bytes ≡ header_octets h ++ drop 12 bytes
  pub asks : Asks (drop 12 bytes) q (drop place bytes)

-- a header, a question and so many records that stand one after the other are a message
pub lays_there : (bytes rest : List ℕ) (h : Header) (q : Question) (place : ℕ) (records : List Record) → Opens bytes h q place → h.questions ≡ 1 → Holds (count_of h) (drop place bytes) records rest → Lays bytes (record { header = h; name = q.name; qtype = q.qtype; qclass = q.qclass; records = records; rest = rest })
lays_there bytes rest h q place records opens one held = record {
  header = opens.fits;
  questions = one;
  name = opens.asks.name;
  qtype = opens.asks.qtype;
  qclass = opens.asks.qclass;
  each = held.each;
  number = held.number;
  parts = opens.front ∙ ap (λ (xs : List ℕ). header_octets h ++ xs) (opens.asks.parts ∙ ap (λ (xs : List ℕ). question_octets q.name q.qtype q.qclass ++ xs) held.parts);
}

-- the header that stands there is the message's
pub lays_header : (bytes : List ℕ) (m : Message) (h : Header) → Lays bytes m → IsHeader h → bytes ≡ header_octets h ++ drop 12 bytes → h ≡ m.header
lays_header bytes m h lays fits front =
    (one_header h m.header (drop 12 bytes) (question_octets m.name m.qtype m.qclass ++ (flat_map record_octets m.records ++ m.rest)) fits lays.header (sym front ∙ lays.parts)).0

-- after the header stands the message's question
pub lays_question : (bytes : List ℕ) (m : Message) → Lays bytes m → drop 12 bytes ≡ question_octets m.name m.qtype m.qclass ++ (flat_map record_octets m.records ++ m.rest)
lays_question bytes m lays = ap (λ (xs : List ℕ). drop 12 xs) lays.parts

-- the question that stands there is the message's, and after it stand its records
lays_records : (go : LabelsGoOn) (bytes : List ℕ) (m : Message) (q : Question) (place : ℕ) → Lays bytes m → Asks (drop 12 bytes) q (drop place bytes) → Holds (count_of m.header) (drop place bytes) m.records m.rest
lays_records go bytes m q place lays asks =
    let same = one_question go q.name m.name q.qtype m.qtype q.qclass m.qclass (drop place bytes) (flat_map record_octets m.records ++ m.rest) asks.name lays.name asks.qtype lays.qtype asks.qclass lays.qclass (sym asks.parts ∙ lays_question bytes m lays) in
    record { each = lays.each; number = lays.number; parts = same.3 }

-- the records that a message has there, by the header that stands there
pub opened : (go : LabelsGoOn) (bytes : List ℕ) (h : Header) (q : Question) (place : ℕ) (m : Message) → Opens bytes h q place → Lays bytes m → Holds (count_of h) (drop place bytes) m.records m.rest
opened go bytes h q place m opens lays =
    let same : m.header ≡ h = sym (lays_header bytes m h lays opens.fits opens.front) in
    rw same at (lays_records go bytes m q place lays opens.asks)

-- where no question stands, no message does
pub no_lays : (bytes : List ℕ) → ((q : Question) (rest : List ℕ) → Asks (drop 12 bytes) q rest → ⊥) → (m : Message) → Lays bytes m → ⊥
no_lays bytes none m lays = none (record { name = m.name; qtype = m.qtype; qclass = m.qclass }) (flat_map record_octets m.records ++ m.rest) (record { name = lays.name; qtype = lays.qtype; qclass = lays.qclass; parts = lays_question bytes m lays })

-- a header that counts other than one question is no message's
pub one_asked : (bytes : List ℕ) (h : Header) → IsHeader h → bytes ≡ header_octets h ++ drop 12 bytes → (h.questions ≡ 1 → ⊥) → (m : Message) → Lays bytes m → ⊥
one_asked bytes h fits front other m lays = other (ap (λ (x : Header). x.questions) (lays_header bytes m h lays fits front) ∙ lays.questions)

-- the first of a list, and the others, each pass what all pass
each_take : (P : Record → Type 0) (n : ℕ) (xs : List Record) → AllByRecursion P xs → AllByRecursion P (take n xs)
each_take P zero xs each = tt
each_take P (suc n) [] each = tt
each_take P (suc n) (x ∷ xs) each = (each.0, each_take P n xs each.1)

each_drop : (P : Record → Type 0) (n : ℕ) (xs : List Record) → AllByRecursion P xs → AllByRecursion P (drop n xs)
each_drop P zero xs each = each
each_drop P (suc n) [] each = tt
each_drop P (suc n) (x ∷ xs) each = each_drop P n xs each.1

-- records are the first of them, and after these the others
pub Holds-first : (m n : ℕ) (octets rest : List ℕ) (records : List Record) → Holds (m + n) octets records rest → Holds m octets (take m records) (flat_map record_octets (drop m records) ++ rest)
Holds-first m n octets rest records held = record {
  each = each_take IsRecord m records held.each;
  number = length-take-le m records (omega (arith, held.number));
  parts = held.parts ∙ ap (λ (rs : List Record). flat_map record_octets rs ++ rest) (sym (take-append-drop m records)) ∙ ap (λ (xs : List ℕ). xs ++ rest) (flat_map-append record_octets (take m records) (drop m records)) ∙ append_assoc (flat_map record_octets (take m records)) (flat_map record_octets (drop m records)) rest;
}

-- where the first records end, the others are held
pub Holds-others : (go : LabelsGoOn) (m n : ℕ) (octets rest there : List ℕ) (records first : List Record) → Holds (m + n) octets records rest → Holds m octets first there → Holds n there (drop m records) rest
Holds-others go m n octets rest there records first held held_first =
    let front = Holds-first m n octets rest records held in
    let same = one_list go first (take m records) there (flat_map record_octets (drop m records) ++ rest) held_first.each front.each (held_first.number ∙ sym front.number) (sym held_first.parts ∙ front.parts) in
    record {
      each = each_drop IsRecord m records held.each;
      number = omega (arith, held.number, length-drop m records);
      parts = same.1;
    }

-- the count of a header, in two parts
pub Holds-counted : (h : Header) (octets rest : List ℕ) (records : List Record) → Holds (count_of h) octets records rest → Holds (h.answers + (h.authorities + h.additionals)) octets records rest
Holds-counted h octets rest records held = record { each = held.each; number = held.number ∙ omega arith; parts = held.parts }

pub Holds-uncounted : (h : Header) (octets rest : List ℕ) (records : List Record) → Holds (h.answers + (h.authorities + h.additionals)) octets records rest → Holds (count_of h) octets records rest
Holds-uncounted h octets rest records held = record { each = held.each; number = held.number ∙ omega arith; parts = held.parts }

-- where no answer records stand, the records are not held
pub no_answers : (h : Header) (octets : List ℕ) (n : ℕ) → n ≡ h.answers → ((records : List Record) (rest : List ℕ) → Holds n octets records rest → ⊥) → (records : List Record) (rest : List ℕ) → Holds (count_of h) octets records rest → ⊥
no_answers h octets n is none records rest held =
    let first = Holds-first h.answers (h.authorities + h.additionals) octets rest records (Holds-counted h octets rest records held) in
    let same : h.answers ≡ n = sym is in
    none (take h.answers records) (flat_map record_octets (drop h.answers records) ++ rest) (record { each = first.each; number = first.number ∙ same; parts = first.parts })

-- where answer records stand and no others after them, the records are not held
pub no_others : (go : LabelsGoOn) (h : Header) (octets there : List ℕ) (n k : ℕ) (first : List Record) → n ≡ h.answers → k ≡ h.authorities + h.additionals → Holds n octets first there → ((records : List Record) (rest : List ℕ) → Holds k there records rest → ⊥) → (records : List Record) (rest : List ℕ) → Holds (count_of h) octets records rest → ⊥
no_others go h octets there n k first is others held_first none records rest held =
    let front : Holds h.answers octets first there = record { each = held_first.each; number = held_first.number ∙ is; parts = held_first.parts } in
    let behind = Holds-others go h.answers (h.authorities + h.additionals) octets rest there records first (Holds-counted h octets rest records held) front in
    none (drop h.answers records) rest (record { each = behind.each; number = behind.number ∙ sym others; parts = behind.parts })

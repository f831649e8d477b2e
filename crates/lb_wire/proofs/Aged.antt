-- Records of a message, made some seconds older one after the other.
use Rattle.std.proofs.Common.{◌≡◌, ℕ, ◌+◌, ◌-◌, ◌<◌, ◌≤◌, ◌^◌, Bool, true, false, List, [], ◌∷◌, ◌++◌, length, take, drop, map, nat_lt, if◌then◌else◌, eq-eqb, refl, sym, ◌∙◌, ap, arith}
use Rattle.std.proofs.lemmas.List.{append_assoc, append-nil, map-append, length-append, length-drop, length-take-le, take_at, drop_at, take-append-drop}
use Rattle.std.proofs.lemmas.Bool.{ne_eqb}
use Rattle.std.proofs.lemmas.Grind.{flat_map-append}
use Rattle.std.specs.List.{flat_map, AllByRecursion}
use Rattle.lb_name.specs.Laws.{LabelsGoOn}
use Rattle.lb_wire.specs.BigEndian.{two_octets, four_octets}
use Rattle.lb_wire.specs.Record.{owner_octets, Record, record_octets, IsRecord, Holds}
use Rattle.lb_wire.specs.Opt.{is_opt, ttl_value}
use Rattle.lb_wire.specs.Message.{Message, Lays, header_octets, question_octets, message_octets, count_of}
use Rattle.lb_wire.specs.Aging.{Outlives, aged_record, aged, Aged}
use Rattle.lb_wire.proofs.OneMessage.{one_record, nested}
use Rattle.lb_wire.specs.declared.header.Header.{Header}
use Rattle.lb_wire.specs.declared.question.Question.{Question}
use Rattle.lb_wire.proofs.Lists.{put_at}
use Rattle.lb_wire.proofs.Lays.{Opens, opened, lays_question}
use Rattle.lb_wire.proofs.Made.{cut_there}

-- a TTL counts for no more than its number
value_low : (b : Bool) (ttl : ℕ) → (if b then ttl else 0) ≤ ttl
value_low true ttl = omega arith
value_low false ttl = omega arith

pub ttl_low : (ttl : ℕ) → ttl_value ttl ≤ ttl
ttl_low ttl = value_low (nat_lt ttl (2 ^ 31)) ttl

-- an older record that is no OPT has a lower TTL, by its test
older_by : (r : Record) (secs : ℕ) (b : Bool) → b ≡ false → (if b then r.ttl else r.ttl - secs) ≡ r.ttl - secs
older_by r secs b is = rw is refl

stays_by : (r : Record) (secs : ℕ) (b : Bool) → b ≡ true → (if b then r.ttl else r.ttl - secs) ≡ r.ttl
stays_by r secs b is = rw is refl

-- an OPT gets no older
pub opt_stays : (r : Record) (secs : ℕ) → is_opt r ≡ true → aged_record secs r ≡ r
opt_stays r secs is = ap (λ (n : ℕ). record r { ttl = n }) (stays_by r secs (is_opt r) is)

-- another record's TTL is lowered
pub other_ages : (r : Record) (secs : ℕ) → is_opt r ≡ false → aged_record secs r ≡ record r { ttl = r.ttl - secs }
other_ages r secs is = ap (λ (n : ℕ). record r { ttl = n }) (older_by r secs (is_opt r) is)

-- the place after a record
pub record_end : (bytes : List ℕ) (at end : ℕ) (r : Record) → drop at bytes ≡ record_octets r ++ drop end bytes → at ≤ length bytes → end ≤ length bytes → end ≡ at + length (record_octets r)
record_end bytes at end r here within ends =
    let size : length (drop at bytes) ≡ length (record_octets r) + length (drop end bytes) = ap (λ (xs : List ℕ). length xs) here ∙ length-append (record_octets r) (drop end bytes) in
    omega (arith, size, length-drop at bytes, length-drop end bytes)

-- a record whose TTL was lowered in its place
pub record_ages : (bytes piece new : List ℕ) (at ttl_at secs : ℕ) (r : Record) (rest : List ℕ) → at ≤ length bytes → drop at bytes ≡ record_octets r ++ rest → is_opt r ≡ false → ttl_at ≡ at + length (owner_octets r.owner) + 4 → piece ≡ four_octets (r.ttl - secs) → new ≡ (take ttl_at bytes ++ piece) ++ drop (ttl_at + length piece) bytes → new ≡ take at bytes ++ (record_octets (aged_record secs r) ++ rest)
record_ages bytes piece new at ttl_at secs r rest within here other place is new_is =
    let fixed = two_octets r.rtype ++ two_octets r.class in
    let d = two_octets (length r.rdata) ++ (r.rdata ++ rest) in
    let a = take at bytes ++ (owner_octets r.owner ++ fixed) in
    let older = record r { ttl = r.ttl - secs } in
    let regroup : (ttl : List ℕ) → take at bytes ++ (owner_octets r.owner ++ (fixed ++ (ttl ++ d))) ≡ a ++ (ttl ++ d) =
    λ ttl. ap (λ (xs : List ℕ). take at bytes ++ xs) (sym (append_assoc (owner_octets r.owner) fixed (ttl ++ d))) ∙ sym (append_assoc (take at bytes) (owner_octets r.owner ++ fixed) (ttl ++ d)) in
    let whole : bytes ≡ a ++ (four_octets r.ttl ++ d) =
    sym (take-append-drop at bytes) ∙ ap (λ (xs : List ℕ). take at bytes ++ xs) (here ∙ nested r rest) ∙ regroup (four_octets r.ttl) in
    let front : length (take at bytes) ≡ at = length-take-le at bytes within in
    let size : ttl_at ≡ length a = omega (arith, place, front, length-append (take at bytes) (owner_octets r.owner ++ fixed), length-append (owner_octets r.owner) fixed) in
    let four : length (four_octets r.ttl) ≡ length piece = ap (λ (xs : List ℕ). length xs) (sym is) in
    new_is
    ∙ put_at a (four_octets r.ttl) piece d bytes ttl_at four whole size
    ∙ ap (λ (xs : List ℕ). a ++ (xs ++ d)) is
    ∙ sym (regroup (four_octets (r.ttl - secs)))
    ∙ ap (λ (xs : List ℕ). take at bytes ++ xs) (sym (nested older rest))
    ∙ ap (λ (s : Record). take at bytes ++ (record_octets s ++ rest)) (sym (other_ages r secs other))

-- a record that stays in its place
pub record_stays : (bytes : List ℕ) (at secs : ℕ) (r : Record) (rest : List ℕ) → drop at bytes ≡ record_octets r ++ rest → is_opt r ≡ true → bytes ≡ take at bytes ++ (record_octets (aged_record secs r) ++ rest)
record_stays bytes at secs r rest here opt =
    sym (take-append-drop at bytes) ∙ ap (λ (xs : List ℕ). take at bytes ++ xs) here ∙ ap (λ (s : Record). take at bytes ++ (record_octets s ++ rest)) (sym (opt_stays r secs opt))

-- the record that is read there is the one that stands there
pub read_there : (go : LabelsGoOn) (bytes : List ℕ) (at end : ℕ) (read r : Record) (rest : List ℕ) → IsRecord read → IsRecord r → drop at bytes ≡ record_octets read ++ drop end bytes → drop at bytes ≡ record_octets r ++ rest → read ≡ r
read_there go bytes at end read r rest is_read is here there = (one_record go read r (drop end bytes) rest is_read is (sym here ∙ there)).0

-- older records take as many octets
older_long : (r : Record) (secs : ℕ) → length (record_octets (aged_record secs r)) ≡ length (record_octets r)
older_long r secs =
    let left = length-append (owner_octets r.owner) (two_octets r.rtype ++ (two_octets r.class ++ (four_octets (aged_record secs r).ttl ++ (two_octets (length r.rdata) ++ r.rdata)))) in
    let right = length-append (owner_octets r.owner) (two_octets r.rtype ++ (two_octets r.class ++ (four_octets r.ttl ++ (two_octets (length r.rdata) ++ r.rdata)))) in
    omega (arith, left, right)

-- the octets of records, so many seconds later
abbrev pub older_octets : ℕ → List Record → List ℕ
older_octets secs records = flat_map record_octets (map (aged_record secs) records)

-- so many of the records are older, the others stand after them
pub record SoFar (old now : List ℕ) (at secs k place : ℕ) (records : List Record) (rest : List ℕ) : Type 0 where
  pub done : List Record
  pub todo : List Record
  pub whole : records ≡ done ++ todo
  pub number : length done ≡ k
  pub each : AllByRecursion IsRecord todo
  pub lives : AllByRecursion (Outlives secs) todo
  pub now_is : now ≡ (take at old ++ older_octets secs done) ++ (flat_map record_octets todo ++ rest)
  pub place_is : place ≡ length (take at old ++ older_octets secs done)

-- at first no record is older
pub SoFar-none : (old : List ℕ) (at secs : ℕ) (records : List Record) (rest : List ℕ) → at ≤ length old → AllByRecursion IsRecord records → AllByRecursion (Outlives secs) records → drop at old ≡ flat_map record_octets records ++ rest → SoFar old old at secs 0 at records rest
SoFar-none old at secs records rest within each lives here = record {
  done = [];
  todo = records;
  whole = refl;
  number = refl;
  each = each;
  lives = lives;
  now_is = sym (take-append-drop at old) ∙ ap (λ (xs : List ℕ). take at old ++ xs) here ∙ ap (λ (xs : List ℕ). xs ++ (flat_map record_octets records ++ rest)) (sym (append-nil (take at old)));
  place_is = sym (length-take-le at old within) ∙ ap (λ (xs : List ℕ). length xs) (sym (append-nil (take at old)));
}

-- the next record stands at the place
abbrev pub Next : List ℕ → ℕ → ℕ → Type 0
Next now place secs = (r : Record) × (rest : List ℕ) × IsRecord r × (drop place now ≡ record_octets r ++ rest) × Outlives secs r

next_by : (now front : List ℕ) (place secs : ℕ) (todo : List Record) (rest : List ℕ) → AllByRecursion IsRecord todo → AllByRecursion (Outlives secs) todo → now ≡ front ++ (flat_map record_octets todo ++ rest) → place ≡ length front → 0 < length todo → Next now place secs
next_by now front place secs [] rest each lives is long some = absurd (omega arith)
next_by now front place secs (r ∷ todo) rest each lives is long some = (
  r,
  flat_map record_octets todo ++ rest,
  each.0,
  ap (λ (xs : List ℕ). drop place xs) is ∙ drop_at front (flat_map record_octets (r ∷ todo) ++ rest) place (sym long) ∙ append_assoc (record_octets r) (flat_map record_octets todo) rest,
  lives.0,
)

-- records are left
todo_some : (records done todo : List Record) (k count : ℕ) → records ≡ done ++ todo → length done ≡ k → length records ≡ count → k < count → 0 < length todo
todo_some records done todo k count whole number many less =
    let size : length records ≡ length done + length todo = ap (λ (rs : List Record). length rs) whole ∙ length-append done todo in
    omega (arith, size)

pub next_of : (old now : List ℕ) (at secs k place count : ℕ) (records : List Record) (rest : List ℕ) → SoFar old now at secs k place records rest → length records ≡ count → k < count → Next now place secs
next_of old now at secs k place count records rest so many less =
    next_by now (take at old ++ older_octets secs so.done) place secs so.todo rest so.each so.lives so.now_is so.place_is (todo_some records so.done so.todo k count so.whole so.number many less)

-- whatever record stands at the place, it was made older there
abbrev pub MadeOlder : List ℕ → List ℕ → ℕ → ℕ → ℕ → Type 0
MadeOlder now new place secs result = (r : Record) (rest : List ℕ) → IsRecord r → drop place now ≡ record_octets r ++ rest → (new ≡ take place now ++ (record_octets (aged_record secs r) ++ rest)) × (result ≡ place + length (record_octets r))

more_by : (old now new : List ℕ) (at secs k place result : ℕ) (records : List Record) (rest : List ℕ) (done todo : List Record) → records ≡ done ++ todo → length done ≡ k → AllByRecursion IsRecord todo → AllByRecursion (Outlives secs) todo → now ≡ (take at old ++ older_octets secs done) ++ (flat_map record_octets todo ++ rest) → place ≡ length (take at old ++ older_octets secs done) → 0 < length todo → MadeOlder now new place secs result → SoFar old new at secs (k + 1) result records rest
more_by old now new at secs k place result records rest done [] whole number each lives is long some older = absurd (omega arith)
more_by old now new at secs k place result records rest done (r ∷ todo) whole number each lives is long some older =
    let front = take at old ++ older_octets secs done in
    let tail = flat_map record_octets todo ++ rest in
    let here : drop place now ≡ record_octets r ++ tail =
    ap (λ (xs : List ℕ). drop place xs) is ∙ drop_at front (flat_map record_octets (r ∷ todo) ++ rest) place (sym long) ∙ append_assoc (record_octets r) (flat_map record_octets todo) rest in
    let made = older r tail each.0 here in
    let kept : take place now ≡ front = ap (λ (xs : List ℕ). take place xs) is ∙ take_at front (flat_map record_octets (r ∷ todo) ++ rest) place (sym long) in
    let octets : older_octets secs (done ++ r ∷ []) ≡ older_octets secs done ++ record_octets (aged_record secs r) =
    ap (λ (rs : List Record). flat_map record_octets rs) (map-append (aged_record secs) done (r ∷ []))
    ∙ flat_map-append record_octets (map (aged_record secs) done) (aged_record secs r ∷ [])
    ∙ ap (λ (xs : List ℕ). older_octets secs done ++ xs) (append-nil (record_octets (aged_record secs r))) in
    let fronted : take at old ++ older_octets secs (done ++ r ∷ []) ≡ front ++ record_octets (aged_record secs r) =
    ap (λ (xs : List ℕ). take at old ++ xs) octets ∙ sym (append_assoc (take at old) (older_octets secs done) (record_octets (aged_record secs r))) in
    let size : length (take at old ++ older_octets secs (done ++ r ∷ [])) ≡ length front + length (record_octets r) =
    ap (λ (xs : List ℕ). length xs) fronted ∙ length-append front (record_octets (aged_record secs r)) ∙ ap (λ (n : ℕ). length front + n) (older_long r secs) in
    record {
      done = done ++ r ∷ [];
      todo = todo;
      whole = whole ∙ sym (append_assoc done (r ∷ []) todo);
      number = omega (arith, number, length-append done (r ∷ []));
      each = each.1;
      lives = lives.1;
      now_is = made.0 ∙ ap (λ (xs : List ℕ). xs ++ (record_octets (aged_record secs r) ++ tail)) kept ∙ sym (append_assoc front (record_octets (aged_record secs r)) tail) ∙ ap (λ (xs : List ℕ). xs ++ tail) (sym fronted);
      place_is = made.1 ∙ omega (arith, long, size);
    }

-- one record more is older
pub SoFar-more : (old now new : List ℕ) (at secs k place result count : ℕ) (records : List Record) (rest : List ℕ) → SoFar old now at secs k place records rest → length records ≡ count → k < count → MadeOlder now new place secs result → SoFar old new at secs (k + 1) result records rest
SoFar-more old now new at secs k place result count records rest so many less older =
    more_by old now new at secs k place result records rest so.done so.todo so.whole so.number so.each so.lives so.now_is so.place_is (todo_some records so.done so.todo k count so.whole so.number many less) older

-- no record is left
none_left : (done todo : List Record) → length todo ≡ 0 → (done ++ todo ≡ done) × (todo ≡ [])
none_left done [] none = (append-nil done, refl)
none_left done (r ∷ todo) none = absurd (omega arith)

-- at last all records are older
pub SoFar-all : (old now : List ℕ) (at secs k place count : ℕ) (records : List Record) (rest : List ℕ) → SoFar old now at secs k place records rest → length records ≡ count → k ≡ count → Aged old at secs records rest now
SoFar-all old now at secs k place count records rest so many all =
    let size : length records ≡ length so.done + length so.todo = ap (λ (rs : List Record). length rs) so.whole ∙ length-append so.done so.todo in
    let left = none_left so.done so.todo (omega (arith, size, so.number)) in
    let done : so.done ≡ records = sym left.0 ∙ sym so.whole in
    so.now_is
    ∙ ap (λ (rs : List Record). (take at old ++ older_octets secs so.done) ++ (flat_map record_octets rs ++ rest)) left.1
    ∙ append_assoc (take at old) (older_octets secs so.done) rest
    ∙ ap (λ (rs : List Record). take at old ++ (older_octets secs rs ++ rest)) done

-- the type that was read tells whether a record is an OPT
pub other_type : (r : Record) (n : ℕ) → n ≡ r.rtype → (n ≡ 41 → ⊥) → is_opt r ≡ false
other_type r n is other = ne_eqb r.rtype 41 (λ e. other (is ∙ e))

pub opt_type : (r : Record) (n : ℕ) → n ≡ r.rtype → n ≡ 41 → is_opt r ≡ true
opt_type r n is same = eq-eqb r.rtype 41 (sym is ∙ same)

-- a record that lives so long has a TTL that can be lowered
pub ttl_room : (read r : Record) (secs n ttl : ℕ) → read ≡ r → n ≡ read.rtype → (n ≡ 41 → ⊥) → ttl ≡ read.ttl → Outlives secs r → secs ≤ ttl
ttl_room read r secs n ttl same type_is other ttl_is lives =
    let type_there : n ≡ r.rtype = type_is ∙ ap (λ (s : Record). s.rtype) same in
    let ttl_there : ttl ≡ r.ttl = ttl_is ∙ ap (λ (s : Record). s.ttl) same in
    let value : secs ≤ ttl_value r.ttl = lives (other_type r n type_there other) in
    omega (arith, value, ttl_low r.ttl, ttl_there)

-- the records that a message has after its question, by the header and the question that stand there
pub age_held : (go : LabelsGoOn) (bytes : List ℕ) (h : Header) (q : Question) (place n : ℕ) (m : Message) → Opens bytes h q place → Lays bytes m → n ≡ count_of h → Holds n (drop place bytes) m.records m.rest
age_held go bytes h q place n m opens lays is =
    let held = opened go bytes h q place m opens lays in
    record { each = held.each; number = omega (arith, held.number, is); parts = held.parts }

-- the message, its records older
pub age_made : (go : LabelsGoOn) (bytes new : List ℕ) (h : Header) (q : Question) (place secs : ℕ) (m : Message) → Opens bytes h q place → place ≡ 12 + length (question_octets q.name q.qtype q.qclass) → Lays bytes m → Aged bytes place secs m.records m.rest new → new ≡ message_octets (aged secs m)
age_made go bytes new h q place secs m opens ends lays made =
    let asked = question_octets q.name q.qtype q.qclass in
    let p = question_octets m.name m.qtype m.qclass in
    let tail = flat_map record_octets m.records ++ m.rest in
    let held = opened go bytes h q place m opens lays in
    let there : asked ++ tail ≡ p ++ tail = ap (λ (xs : List ℕ). asked ++ xs) (sym held.parts) ∙ sym opens.asks.parts ∙ lays_question bytes m lays in
    let size : length asked + length tail ≡ length p + length tail = sym (length-append asked tail) ∙ ap (λ (xs : List ℕ). length xs) there ∙ length-append p tail in
    let place_is : place ≡ 12 + length p = omega (arith, ends, size) in
    let older = older_octets secs m.records ++ m.rest in
    made ∙ ap (λ (xs : List ℕ). xs ++ older) (cut_there bytes m place lays place_is) ∙ append_assoc (header_octets m.header) p older

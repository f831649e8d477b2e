-- Bytes are parts in one way only.
use Rattle.std.proofs.Common.{◌≡◌, ℕ, ◌+◌, ◌/◌, ◌%◌, ◌<◌, ◌≤◌, ◌^◌, List, [], ◌∷◌, ◌++◌, length, Option, None, Some, Result, Ok, Err, refl, sym, ◌∙◌, ap, arith}
use Rattle.std.proofs.lemmas.List.{append_assoc, append-nil}
use Rattle.std.proofs.lemmas.Nat.{from_be_bytes-to_be_bytes_2, from_be_bytes-to_be_bytes_4}
use Rattle.std.specs.Int.{w16, w32, from_be_bytes}
use Rattle.std.specs.List.{flat_map, AllByRecursion}
use Rattle.lb_name.specs.Name.{IsLabel, labels_octets, wire_of, IsName}
use Rattle.lb_name.specs.Laws.{NoLabel, LabelsGoOn}
use Rattle.lb_wire.proofs.Lists.{halves}
use Rattle.lb_wire.specs.BigEndian.{two_octets, four_octets, number_at}
use Rattle.lb_wire.specs.Record.{Owner, end_octets, owner_octets, IsPointer, IsOwner, Record, fixed_octets, record_octets, IsRecord}
use Rattle.lb_wire.specs.Message.{Message, Lays, IsHeader, header_octets, question_octets, count_of}
use Rattle.lb_wire.specs.Query.{view_of, Reads}
use Rattle.lb_wire.specs.declared.header.Header.{Header}
use Rattle.lb_wire.specs.declared.query.QueryView.{QueryView}
use Rattle.lb_wire.specs.declared.query.QueryFault.{QueryFault}
use Rattle.lb_wire.specs.declared.query.QueryFault.TheVariants as faults
use Rattle.lb_wire.specs.declared.record_type.RecordType.{RecordType}
use Rattle.lb_wire.specs.declared.record_type.Class.{Class}

-- two octets are one number
pub one_u16 : (a b : ℕ) (x y : List ℕ) → a < 2 ^ 16 → b < 2 ^ 16 → two_octets a ++ x ≡ two_octets b ++ y → (a ≡ b) × (x ≡ y)
one_u16 a b x y fits_a fits_b whole =
    let cut = halves (two_octets a) (two_octets b) x y refl whole in
    (sym (from_be_bytes-to_be_bytes_2 a fits_a) ∙ ap (λ (xs : List ℕ). from_be_bytes w16 xs) cut.0 ∙ from_be_bytes-to_be_bytes_2 b fits_b, cut.1)

-- four octets are one number
pub one_u32 : (a b : ℕ) (x y : List ℕ) → a < 2 ^ 32 → b < 2 ^ 32 → four_octets a ++ x ≡ four_octets b ++ y → (a ≡ b) × (x ≡ y)
one_u32 a b x y fits_a fits_b whole =
    let cut = halves (four_octets a) (four_octets b) x y refl whole in
    (sym (from_be_bytes-to_be_bytes_4 a fits_a) ∙ ap (λ (xs : List ℕ). from_be_bytes w32 xs) cut.0 ∙ from_be_bytes-to_be_bytes_4 b fits_b, cut.1)

-- headers of equal fields are equal
same_header : (a b : Header) → a.id ≡ b.id → a.flags.0 ≡ b.flags.0 → a.questions ≡ b.questions → a.answers ≡ b.answers → a.authorities ≡ b.authorities → a.additionals ≡ b.additionals → a ≡ b
same_header a b i f q n u r =
    ap (λ (x : ℕ). record a { id = x }) i
    ∙ ap (λ (x : ℕ). record b { flags = record { 0 = x }; questions = a.questions; answers = a.answers; authorities = a.authorities; additionals = a.additionals }) f
    ∙ ap (λ (x : ℕ). record b { questions = x; answers = a.answers; authorities = a.authorities; additionals = a.additionals }) q
    ∙ ap (λ (x : ℕ). record b { answers = x; authorities = a.authorities; additionals = a.additionals }) n
    ∙ ap (λ (x : ℕ). record b { authorities = x; additionals = a.additionals }) u
    ∙ ap (λ (x : ℕ). record b { additionals = x }) r

-- twelve octets are one header
pub one_header : (a b : Header) (x y : List ℕ) → IsHeader a → IsHeader b → header_octets a ++ x ≡ header_octets b ++ y → (a ≡ b) × (x ≡ y)
one_header a b x y is_a is_b whole =
    let id = one_u16 a.id b.id (two_octets a.flags.0 ++ (two_octets a.questions ++ (two_octets a.answers ++ (two_octets a.authorities ++ (two_octets a.additionals ++ x))))) (two_octets b.flags.0 ++ (two_octets b.questions ++ (two_octets b.answers ++ (two_octets b.authorities ++ (two_octets b.additionals ++ y))))) is_a.id is_b.id whole in
    let flags = one_u16 a.flags.0 b.flags.0 (two_octets a.questions ++ (two_octets a.answers ++ (two_octets a.authorities ++ (two_octets a.additionals ++ x)))) (two_octets b.questions ++ (two_octets b.answers ++ (two_octets b.authorities ++ (two_octets b.additionals ++ y)))) is_a.flags is_b.flags id.1 in
    let questions = one_u16 a.questions b.questions (two_octets a.answers ++ (two_octets a.authorities ++ (two_octets a.additionals ++ x))) (two_octets b.answers ++ (two_octets b.authorities ++ (two_octets b.additionals ++ y))) is_a.questions is_b.questions flags.1 in
    let answers = one_u16 a.answers b.answers (two_octets a.authorities ++ (two_octets a.additionals ++ x)) (two_octets b.authorities ++ (two_octets b.additionals ++ y)) is_a.answers is_b.answers questions.1 in
    let authorities = one_u16 a.authorities b.authorities (two_octets a.additionals ++ x) (two_octets b.additionals ++ y) is_a.authorities is_b.authorities answers.1 in
    let additionals = one_u16 a.additionals b.additionals x y is_a.additionals is_b.additionals authorities.1 in
    (same_header a b id.0 flags.0 questions.0 answers.0 authorities.0 additionals.0, additionals.1)

-- what an owner ends with is no label
pub NoLabel-end : (pointer : Option ℕ) (rest : List ℕ) → NoLabel (end_octets pointer ++ rest)
NoLabel-end None rest n more is some small = let first : 0 ≡ n = cc is in omega arith
NoLabel-end (Some place) rest n more is some small = let first : 192 + place / 2 ^ 8 ≡ n = cc is in omega arith

-- owners that end at one place end alike
one_end : (a b : Option ℕ) (x y : List ℕ) → IsPointer a → IsPointer b → end_octets a ++ x ≡ end_octets b ++ y → (a ≡ b) × (x ≡ y)
one_end None None x y is_a is_b whole = (refl, cc whole)
one_end None (Some q) x y is_a is_b whole = let first : 0 ≡ 192 + q / 2 ^ 8 = cc whole in absurd (omega arith)
one_end (Some p) None x y is_a is_b whole = let first : 192 + p / 2 ^ 8 ≡ 0 = cc whole in absurd (omega arith)
one_end (Some p) (Some q) x y is_a is_b whole =
    let high : 192 + p / 2 ^ 8 ≡ 192 + q / 2 ^ 8 = cc whole in
    let low : p % 2 ^ 8 ≡ q % 2 ^ 8 = cc whole in
    let same : p ≡ q = omega arith in
    (ap (λ (n : ℕ). Some n) same, cc whole)

-- where labels have ended, no further label stands
no_more : (pointer : Option ℕ) (x tail : List ℕ) (others : List (List ℕ)) → AllByRecursion IsLabel others → end_octets pointer ++ x ≡ labels_octets others ++ tail → others ≡ []
no_more pointer x tail [] each whole = refl
no_more pointer x tail (label ∷ others) each whole = absurd (NoLabel-end pointer x (length label) ((label ++ labels_octets others) ++ tail) whole each.0.0 each.0.1)

-- octets are one owner
pub one_owner : (go : LabelsGoOn) (a b : Owner) (x y : List ℕ) → IsOwner a → IsOwner b → owner_octets a ++ x ≡ owner_octets b ++ y → (a ≡ b) × (x ≡ y)
one_owner go a b x y is_a is_b whole =
    let grouped : labels_octets a.labels ++ (end_octets a.pointer ++ x) ≡ labels_octets b.labels ++ (end_octets b.pointer ++ y) =
    sym (append_assoc (labels_octets a.labels) (end_octets a.pointer) x) ∙ whole ∙ append_assoc (labels_octets b.labels) (end_octets b.pointer) y in
    let on = go a.labels b.labels (end_octets a.pointer ++ x) (end_octets b.pointer ++ y) is_a.each is_b.each (NoLabel-end b.pointer y) grouped in
    let none : on.others ≡ [] = no_more a.pointer x (end_octets b.pointer ++ y) on.others on.each on.rest in
    let labels : a.labels ≡ b.labels = sym (append-nil a.labels) ∙ sym (ap (λ (ls : List (List ℕ)). a.labels ++ ls) none) ∙ sym on.whole in
    let ends : end_octets a.pointer ++ x ≡ end_octets b.pointer ++ y = on.rest ∙ ap (λ (ls : List (List ℕ)). labels_octets ls ++ (end_octets b.pointer ++ y)) none in
    let end = one_end a.pointer b.pointer x y is_a.pointer is_b.pointer ends in
    (ap (λ (ls : List (List ℕ)). record a { labels = ls }) labels ∙ ap (λ (p : Option ℕ). record b { pointer = p }) end.0, end.1)

-- records of equal fields are equal
same_record : (a b : Record) → a.owner ≡ b.owner → a.rtype ≡ b.rtype → a.class ≡ b.class → a.ttl ≡ b.ttl → a.rdata ≡ b.rdata → a ≡ b
same_record a b o t k l d =
    ap (λ (x : Owner). record a { owner = x }) o
    ∙ ap (λ (x : ℕ). record b { rtype = x; class = a.class; ttl = a.ttl; rdata = a.rdata }) t
    ∙ ap (λ (x : ℕ). record b { class = x; ttl = a.ttl; rdata = a.rdata }) k
    ∙ ap (λ (x : ℕ). record b { ttl = x; rdata = a.rdata }) l
    ∙ ap (λ (x : List ℕ). record b { rdata = x }) d

-- a record and what follows it, its parts nested to the right
pub nested : (r : Record) (x : List ℕ) → record_octets r ++ x ≡ owner_octets r.owner ++ (two_octets r.rtype ++ (two_octets r.class ++ (four_octets r.ttl ++ (two_octets (length r.rdata) ++ (r.rdata ++ x)))))
nested r x = append_assoc (owner_octets r.owner) (fixed_octets r ++ r.rdata) x

-- octets are one record
pub one_record : (go : LabelsGoOn) (a b : Record) (x y : List ℕ) → IsRecord a → IsRecord b → record_octets a ++ x ≡ record_octets b ++ y → (a ≡ b) × (x ≡ y)
one_record go a b x y is_a is_b whole =
    let owner = one_owner go a.owner b.owner (two_octets a.rtype ++ (two_octets a.class ++ (four_octets a.ttl ++ (two_octets (length a.rdata) ++ (a.rdata ++ x))))) (two_octets b.rtype ++ (two_octets b.class ++ (four_octets b.ttl ++ (two_octets (length b.rdata) ++ (b.rdata ++ y))))) is_a.owner is_b.owner (sym (nested a x) ∙ whole ∙ nested b y) in
    let rtype = one_u16 a.rtype b.rtype (two_octets a.class ++ (four_octets a.ttl ++ (two_octets (length a.rdata) ++ (a.rdata ++ x)))) (two_octets b.class ++ (four_octets b.ttl ++ (two_octets (length b.rdata) ++ (b.rdata ++ y)))) is_a.rtype is_b.rtype owner.1 in
    let class = one_u16 a.class b.class (four_octets a.ttl ++ (two_octets (length a.rdata) ++ (a.rdata ++ x))) (four_octets b.ttl ++ (two_octets (length b.rdata) ++ (b.rdata ++ y))) is_a.class is_b.class rtype.1 in
    let ttl = one_u32 a.ttl b.ttl (two_octets (length a.rdata) ++ (a.rdata ++ x)) (two_octets (length b.rdata) ++ (b.rdata ++ y)) is_a.ttl is_b.ttl class.1 in
    let size = one_u16 (length a.rdata) (length b.rdata) (a.rdata ++ x) (b.rdata ++ y) is_a.rdata is_b.rdata ttl.1 in
    let rdata = halves a.rdata b.rdata x y size.0 size.1 in
    (same_record a b owner.0 rtype.0 class.0 ttl.0 rdata.0, rdata.1)

-- octets are one list of so many records
pub one_list : (go : LabelsGoOn) (a b : List Record) (x y : List ℕ) → AllByRecursion IsRecord a → AllByRecursion IsRecord b → length a ≡ length b → flat_map record_octets a ++ x ≡ flat_map record_octets b ++ y → (a ≡ b) × (x ≡ y)
one_list go [] [] x y each_a each_b many whole = (refl, whole)
one_list go [] (s ∷ b) x y each_a each_b many whole = absurd (omega arith)
one_list go (r ∷ a) [] x y each_a each_b many whole = absurd (omega arith)
one_list go (r ∷ a) (s ∷ b) x y each_a each_b many whole =
    let grouped : record_octets r ++ (flat_map record_octets a ++ x) ≡ record_octets s ++ (flat_map record_octets b ++ y) =
    sym (append_assoc (record_octets r) (flat_map record_octets a) x) ∙ whole ∙ append_assoc (record_octets s) (flat_map record_octets b) y in
    let first = one_record go r s (flat_map record_octets a ++ x) (flat_map record_octets b ++ y) each_a.0 each_b.0 grouped in
    let others = one_list go a b x y each_a.1 each_b.1 (omega arith) first.1 in
    (ap (λ (t : Record). t ∷ a) first.0 ∙ ap (λ (ts : List Record). s ∷ ts) others.0, others.1)

-- octets are one name
one_name : (go : LabelsGoOn) (a b : List (List ℕ)) (x y : List ℕ) → IsName a → IsName b → wire_of a ++ x ≡ wire_of b ++ y → (a ≡ b) × (x ≡ y)
one_name go a b x y is_a is_b whole =
    let owner = one_owner go (record { labels = a; pointer = None }) (record { labels = b; pointer = None }) x y (record { each = is_a.each; pointer = tt; fits = is_a.fits }) (record { each = is_b.each; pointer = tt; fits = is_b.fits }) whole in
    (ap (λ (o : Owner). o.labels) owner.0, owner.1)

-- octets are one question
pub one_question : (go : LabelsGoOn) (a b : List (List ℕ)) (at bt : RecordType) (ac bc : Class) (x y : List ℕ) → IsName a → IsName b → at.0 < 2 ^ 16 → bt.0 < 2 ^ 16 → ac.0 < 2 ^ 16 → bc.0 < 2 ^ 16 → question_octets a at ac ++ x ≡ question_octets b bt bc ++ y → (a ≡ b) × (at ≡ bt) × (ac ≡ bc) × (x ≡ y)
one_question go a b at bt ac bc x y is_a is_b fit_at fit_bt fit_ac fit_bc whole =
    let regroup_a : question_octets a at ac ++ x ≡ wire_of a ++ (two_octets at.0 ++ (two_octets ac.0 ++ x)) = append_assoc (wire_of a) (two_octets at.0 ++ two_octets ac.0) x in
    let regroup_b : question_octets b bt bc ++ y ≡ wire_of b ++ (two_octets bt.0 ++ (two_octets bc.0 ++ y)) = append_assoc (wire_of b) (two_octets bt.0 ++ two_octets bc.0) y in
    let grouped : wire_of a ++ (two_octets at.0 ++ (two_octets ac.0 ++ x)) ≡ wire_of b ++ (two_octets bt.0 ++ (two_octets bc.0 ++ y)) = sym regroup_a ∙ whole ∙ regroup_b in
    let name = one_name go a b (two_octets at.0 ++ (two_octets ac.0 ++ x)) (two_octets bt.0 ++ (two_octets bc.0 ++ y)) is_a is_b grouped in
    let qtype = one_u16 at.0 bt.0 (two_octets ac.0 ++ x) (two_octets bc.0 ++ y) fit_at fit_bt name.1 in
    let qclass = one_u16 ac.0 bc.0 x y fit_ac fit_bc qtype.1 in
    (name.0, ap (λ (n : ℕ). record { 0 = n }) qtype.0, ap (λ (n : ℕ). record { 0 = n }) qclass.0, qclass.1)

-- messages of equal parts are equal
same_message : (a b : Message) → a.header ≡ b.header → a.name ≡ b.name → a.qtype ≡ b.qtype → a.qclass ≡ b.qclass → a.records ≡ b.records → a.rest ≡ b.rest → a ≡ b
same_message a b h n t k r e =
    ap (λ (x : Header). record a { header = x }) h
    ∙ ap (λ (x : List (List ℕ)). record b { name = x; qtype = a.qtype; qclass = a.qclass; records = a.records; rest = a.rest }) n
    ∙ ap (λ (x : RecordType). record b { qtype = x; qclass = a.qclass; records = a.records; rest = a.rest }) t
    ∙ ap (λ (x : Class). record b { qclass = x; records = a.records; rest = a.rest }) k
    ∙ ap (λ (x : List Record). record b { records = x; rest = a.rest }) r
    ∙ ap (λ (x : List ℕ). record b { rest = x }) e

-- bytes are the parts of one message
pub one_layout : (go : LabelsGoOn) (bytes : List ℕ) (a b : Message) → Lays bytes a → Lays bytes b → a ≡ b
one_layout go bytes a b lays_a lays_b =
    let header = one_header a.header b.header (question_octets a.name a.qtype a.qclass ++ (flat_map record_octets a.records ++ a.rest)) (question_octets b.name b.qtype b.qclass ++ (flat_map record_octets b.records ++ b.rest)) lays_a.header lays_b.header (sym lays_a.parts ∙ lays_b.parts) in
    let question = one_question go a.name b.name a.qtype b.qtype a.qclass b.qclass (flat_map record_octets a.records ++ a.rest) (flat_map record_octets b.records ++ b.rest) lays_a.name lays_b.name lays_a.qtype lays_b.qtype lays_a.qclass lays_b.qclass header.1 in
    let many : length a.records ≡ length b.records = lays_a.number ∙ ap (λ (h : Header). count_of h) header.0 ∙ sym lays_b.number in
    let records = one_list go a.records b.records a.rest b.rest lays_a.each lays_b.each many question.3 in
    same_message a b header.0 question.0 question.1 question.2 records.0 records.1

-- a message has a header
pub lays_long : (bytes : List ℕ) (m : Message) → Lays bytes m → 12 ≤ length bytes
lays_long bytes m lays = rw lays.parts (omega arith)

-- the flags of a message stand at octet 2
pub flags_there : (bytes : List ℕ) (m : Message) → Lays bytes m → number_at bytes 2 ≡ m.header.flags.0
flags_there bytes m lays = ap (λ (xs : List ℕ). number_at xs 2) lays.parts ∙ from_be_bytes-to_be_bytes_2 m.header.flags.0 lays.header.flags

-- bytes are the parts of a query in one way, and then they have no fault
pub one_reading_of : (go : LabelsGoOn) (bytes : List ℕ) (a b : Result QueryView QueryFault) → Reads bytes a → Reads bytes b → a ≡ b
one_reading_of go bytes (Ok v) (Ok w) a b =
    let same : a.0 ≡ b.0 = one_layout go bytes a.0 b.0 a.1 b.1 in
    ap (λ (v : QueryView). Ok v) (a.3 ∙ ap (λ (m : Message). view_of m) same ∙ sym b.3)
one_reading_of go bytes (Ok v) (Err faults.Short) a b = absurd (omega (arith, lays_long bytes a.0 a.1))
one_reading_of go bytes (Ok v) (Err faults.NotQuery) a b = absurd (omega (arith, flags_there bytes a.0 a.1, a.2.flags))
one_reading_of go bytes (Ok v) (Err faults.Malformed) a b = absurd (b.2 a.0 a.1 a.2)
one_reading_of go bytes (Err faults.Short) (Ok w) a b = absurd (omega (arith, lays_long bytes b.0 b.1))
one_reading_of go bytes (Err faults.Short) (Err faults.Short) a b = refl
one_reading_of go bytes (Err faults.Short) (Err faults.NotQuery) a b = absurd (omega arith)
one_reading_of go bytes (Err faults.Short) (Err faults.Malformed) a b = absurd (omega arith)
one_reading_of go bytes (Err faults.NotQuery) (Ok w) a b = absurd (omega (arith, flags_there bytes b.0 b.1, b.2.flags))
one_reading_of go bytes (Err faults.NotQuery) (Err faults.Short) a b = absurd (omega arith)
one_reading_of go bytes (Err faults.NotQuery) (Err faults.NotQuery) a b = refl
one_reading_of go bytes (Err faults.NotQuery) (Err faults.Malformed) a b = absurd (omega arith)
one_reading_of go bytes (Err faults.Malformed) (Ok w) a b = absurd (a.2 b.0 b.1 b.2)
one_reading_of go bytes (Err faults.Malformed) (Err faults.Short) a b = absurd (omega arith)
one_reading_of go bytes (Err faults.Malformed) (Err faults.NotQuery) a b = absurd (omega arith)
one_reading_of go bytes (Err faults.Malformed) (Err faults.Malformed) a b = refl

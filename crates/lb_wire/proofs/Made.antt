-- Made answers, in the room that their query had.
use Rattle.std.proofs.Common.{◌≡◌, ℕ, ◌+◌, ◌≤◌, true, List, [], ◌∷◌, ◌++◌, length, take, drop, Option, Some, sym, ◌∙◌, ap, arith}
use Rattle.std.proofs.lemmas.List.{append_assoc, length-append, take_at}
use Rattle.std.specs.List.{flat_map}
use Rattle.lb_name.specs.Laws.{LabelsGoOn}
use Rattle.lb_wire.specs.Record.{Record, record_octets}
use Rattle.lb_wire.specs.Opt.{opts, first_opt, opt_record, opt_octets, opt_number}
use Rattle.lb_wire.specs.Message.{Message, Lays, header_octets, question_octets}
use Rattle.lb_wire.specs.Tally.{is_two}
use Rattle.lb_wire.specs.Query.{view_of}
use Rattle.lb_wire.specs.Answer.{made_header, made_of}
use Rattle.lb_wire.specs.declared.header.Header.{Header}
use Rattle.lb_wire.specs.declared.flags.Flags.{Flags}
use Rattle.lb_wire.specs.declared.query.QueryView.{QueryView}
use Rattle.lb_wire.specs.declared.opt.Opt.{Opt}
use Rattle.lb_wire.proofs.OneMessage.{one_layout}
use Rattle.lb_wire.proofs.Owners.{end_long}
use Rattle.lb_wire.proofs.Tallies.{two_many}

-- a record has eleven octets at least
record_long : (r : Record) → 11 ≤ length (record_octets r)
record_long r = simp length-append (omega (arith, end_long r.owner.pointer))

-- and so have records
first_long : (r : Record) (records : List Record) → 11 ≤ length (flat_map record_octets (r ∷ records))
first_long r records = omega (arith, record_long r, length-append (record_octets r) (flat_map record_octets records))

-- records with an OPT among them have eleven octets at least
some_long : (records : List Record) (opt : Opt) → first_opt (opts records) ≡ Some opt → 11 ≤ length (flat_map record_octets records)
some_long [] opt is = cc is
some_long (r ∷ records) opt is = first_long r records

-- after the question of a query with an OPT is room for one
pub opt_room : (bytes : List ℕ) (m : Message) (opt : Opt) → Lays bytes m → first_opt (opts m.records) ≡ Some opt → 12 + length (question_octets m.name m.qtype m.qclass) + 11 ≤ length bytes
opt_room bytes m opt lays is =
    let q = question_octets m.name m.qtype m.qclass in
    let records = flat_map record_octets m.records in
    let size : length bytes ≡ 12 + length (q ++ (records ++ m.rest)) = ap (λ (xs : List ℕ). length xs) lays.parts ∙ omega arith in
    omega (arith, some_long m.records opt is, size, length-append q (records ++ m.rest), length-append records m.rest)

-- what stands before the end of the question
pub cut_there : (bytes : List ℕ) (m : Message) (end : ℕ) → Lays bytes m → end ≡ 12 + length (question_octets m.name m.qtype m.qclass) → take end bytes ≡ header_octets m.header ++ question_octets m.name m.qtype m.qclass
cut_there bytes m end lays ends =
    let front = header_octets m.header ++ question_octets m.name m.qtype m.qclass in
    let rest = flat_map record_octets m.records ++ m.rest in
    let size : length front ≡ end = omega (arith, ends) in
    ap (λ (xs : List ℕ). take end xs) (lays.parts ∙ sym (append_assoc (header_octets m.header) (question_octets m.name m.qtype m.qclass) rest)) ∙ take_at front rest end size

-- the question, and what was put after it
pub made_there : (bytes piece : List ℕ) (m : Message) (end : ℕ) → Lays bytes m → end ≡ 12 + length (question_octets m.name m.qtype m.qclass) → drop 12 (take end bytes ++ piece) ≡ question_octets m.name m.qtype m.qclass ++ piece
made_there bytes piece m end lays ends = ap (λ (xs : List ℕ). drop 12 (xs ++ piece)) (cut_there bytes m end lays ends)

-- a message with two OPT records is no query
pub not_twice : (go : LabelsGoOn) (bytes : List ℕ) (m other : Message) → Lays bytes m → is_two (opts m.records) ≡ true → Lays bytes other → length (opts other.records) ≤ 1 → ⊥
not_twice go bytes m other lays two lays_other few =
    let same = one_layout go bytes m other lays lays_other in
    two_many (opts other.records) (ap (λ (m : Message). is_two (opts m.records)) (sym same) ∙ two) few

-- there is room for the OPT of the answer
pub opt_fits : (old piece : List ℕ) (m : Message) (view : QueryView) (opt : Opt) → Lays old m → view ≡ view_of m → view.opt ≡ Some opt → piece ≡ record_octets (opt_record opt) → view.question_end + length piece ≤ length old
opt_fits old piece m view opt lays is has made =
    let room = opt_room old m opt lays (ap (λ (v : QueryView). v.opt) (sym is) ∙ has) in
    let end : view.question_end ≡ 12 + length (question_octets m.name m.qtype m.qclass) = ap (λ (v : QueryView). v.question_end) is in
    let size : length piece ≡ 11 = ap (λ (xs : List ℕ). length xs) made in
    omega (arith, room, end, size)

-- the question and its OPT after a header are the made answer
pub made_opt : (old cut new piece : List ℕ) (m : Message) (view : QueryView) (flags : Flags) (opt : Opt) (h : Header) → Lays old m → view ≡ view_of m → view.opt ≡ Some opt → piece ≡ record_octets (opt_record opt) → cut ≡ take view.question_end old ++ piece → h ≡ made_header view.id flags 1 0 1 → new ≡ header_octets h ++ drop 12 cut → new ≡ made_of view flags.0
made_opt old cut new piece m view flags opt h lays is has made cut_is headed new_is =
    let head = header_octets (made_header view.id flags 1 0 1) in
    new_is
    ∙ ap (λ (h : Header). header_octets h ++ drop 12 cut) headed
    ∙ ap (λ (xs : List ℕ). head ++ drop 12 xs) (cut_is ∙ ap (λ (xs : List ℕ). take view.question_end old ++ xs) made)
    ∙ ap (λ (xs : List ℕ). head ++ xs) (made_there old (record_octets (opt_record opt)) m view.question_end lays (ap (λ (v : QueryView). v.question_end) is))
    ∙ ap (λ (v : QueryView). head ++ (question_octets v.name v.qtype v.qclass ++ record_octets (opt_record opt))) (sym is)
    ∙ ap (λ (o : Option Opt). header_octets (made_header view.id flags 1 0 (opt_number o)) ++ (question_octets view.name view.qtype view.qclass ++ opt_octets o)) (sym has)

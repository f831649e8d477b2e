-- Spoofed answers, one record after the other.
use Rattle.std.proofs.Common.{◌≡◌, ℕ, ◌+◌, ◌<◌, Bool, true, false, List, [], ◌∷◌, ◌++◌, length, take, drop, get_or, map, filter, if◌then◌else◌, refl, sym, ◌∙◌, ap}
use Rattle.std.proofs.lemmas.List.{append_assoc, append-nil, map-append, take_more}
use Rattle.std.proofs.lemmas.List.Elements.{filter-append}
use Rattle.std.proofs.lemmas.Grind.{flat_map-append}
use Rattle.std.specs.List.{flat_map}
use Rattle.lb_wire.specs.Record.{Record, record_octets}
use Rattle.lb_wire.specs.Opt.{opt_octets, opt_number}
use Rattle.lb_wire.specs.Flags.{answer_flags}
use Rattle.lb_wire.specs.Message.{Message, Lays, header_octets, question_octets}
use Rattle.lb_wire.specs.Query.{view_of}
use Rattle.lb_wire.specs.Answer.{address_record, fits_type, spoof_records, made_header, spoofed_of}
use Rattle.lb_wire.specs.declared.addr.Addr.{Addr}
use Rattle.lb_wire.specs.declared.header.Header.{Header}
use Rattle.lb_wire.specs.declared.flags.Flags.{Flags}
use Rattle.lb_wire.specs.declared.query.QueryView.{QueryView}
use Rattle.lb_wire.proofs.Made.{cut_there}

-- the records of one address, by whether it fits
spoof_one : (qtype : ℕ) (addr : Addr) (b : Bool) → fits_type qtype addr ≡ b → spoof_records qtype (addr ∷ []) ≡ (if b then address_record addr ∷ [] else [])
spoof_one qtype addr true is = rw is refl
spoof_one qtype addr false is = rw is refl

-- the records of one address more
spoof_more : (qtype : ℕ) (addrs : List Addr) (addr : Addr) (b : Bool) → fits_type qtype addr ≡ b → spoof_records qtype (addrs ++ addr ∷ []) ≡ spoof_records qtype addrs ++ (if b then address_record addr ∷ [] else [])
spoof_more qtype addrs addr b is =
    ap (λ (xs : List Addr). map address_record xs) (filter-append (fits_type qtype) addrs (addr ∷ []))
    ∙ map-append address_record (filter (fits_type qtype) addrs) (filter (fits_type qtype) (addr ∷ []))
    ∙ ap (λ (rs : List Record). spoof_records qtype addrs ++ rs) (spoof_one qtype addr b is)

-- an address that fits adds its record
pub spoof_fits : (qtype i : ℕ) (addrs : List Addr) (addr d : Addr) → i < length addrs → addr ≡ get_or addrs i d → fits_type qtype addr ≡ true → spoof_records qtype (take (i + 1) addrs) ≡ spoof_records qtype (take i addrs) ++ address_record addr ∷ []
spoof_fits qtype i addrs addr d within is fits =
    ap (λ (xs : List Addr). spoof_records qtype xs) (take_more addrs i d within ∙ ap (λ (a : Addr). take i addrs ++ a ∷ []) (sym is)) ∙ spoof_more qtype (take i addrs) addr true fits

-- another adds none
pub spoof_skips : (qtype i : ℕ) (addrs : List Addr) (addr d : Addr) → i < length addrs → addr ≡ get_or addrs i d → fits_type qtype addr ≡ false → spoof_records qtype (take (i + 1) addrs) ≡ spoof_records qtype (take i addrs)
spoof_skips qtype i addrs addr d within is fits =
    ap (λ (xs : List Addr). spoof_records qtype xs) (take_more addrs i d within ∙ ap (λ (a : Addr). take i addrs ++ a ∷ []) (sym is)) ∙ spoof_more qtype (take i addrs) addr false fits ∙ append-nil (spoof_records qtype (take i addrs))

-- the octets of one record more
pub octets_more : (front now : List ℕ) (records : List Record) (r : Record) (more : List Record) (new : List ℕ) → now ≡ front ++ flat_map record_octets records → new ≡ now ++ record_octets r → more ≡ records ++ r ∷ [] → new ≡ front ++ flat_map record_octets more
octets_more front now records r more new so here all =
    here ∙ ap (λ (xs : List ℕ). xs ++ record_octets r) so ∙ append_assoc front (flat_map record_octets records) (record_octets r)
    ∙ ap (λ (xs : List ℕ). front ++ (flat_map record_octets records ++ xs)) (sym (append-nil (record_octets r)))
    ∙ ap (λ (xs : List ℕ). front ++ xs) (sym (flat_map-append record_octets records (r ∷ [])))
    ∙ ap (λ (rs : List Record). front ++ flat_map record_octets rs) (sym all)

-- the question, the records and the OPT after a header are the spoofed answer
pub spoofed_there : (bytes cut records with_opt new : List ℕ) (m : Message) (view : QueryView) (addrs : List Addr) (h : Header) (flags : Flags) (answers additionals : ℕ) → Lays bytes m → view ≡ view_of m → cut ≡ take view.question_end bytes → records ≡ cut ++ flat_map record_octets (spoof_records view.qtype.0 addrs) → with_opt ≡ records ++ opt_octets view.opt → answers ≡ length (spoof_records view.qtype.0 addrs) → additionals ≡ opt_number view.opt → flags.0 ≡ answer_flags view.flags.0 0 0 → h ≡ made_header view.id flags 1 answers additionals → new ≡ header_octets h ++ drop 12 with_opt → new ≡ spoofed_of view addrs
spoofed_there bytes cut records with_opt new m view addrs h flags answers additionals lays is cut_is records_is opt_is answers_is additionals_is flags_is h_is new_is =
    let rs = spoof_records view.qtype.0 addrs in
    let tail = flat_map record_octets rs ++ opt_octets view.opt in
    let q = question_octets m.name m.qtype m.qclass in
    let end : view.question_end ≡ 12 + length q = ap (λ (v : QueryView). v.question_end) is in
    let whole : with_opt ≡ (header_octets m.header ++ q) ++ tail =
    opt_is
    ∙ ap (λ (xs : List ℕ). xs ++ opt_octets view.opt) (records_is ∙ ap (λ (xs : List ℕ). xs ++ flat_map record_octets rs) (cut_is ∙ cut_there bytes m view.question_end lays end))
    ∙ append_assoc (header_octets m.header ++ q) (flat_map record_octets rs) (opt_octets view.opt) in
    let flagged : flags ≡ record { 0 = answer_flags view.flags.0 0 0 } = ap (λ (n : ℕ). record { 0 = n }) flags_is in
    new_is
    ∙ ap (λ (x : Header). header_octets x ++ drop 12 with_opt) h_is
    ∙ ap (λ (xs : List ℕ). header_octets (made_header view.id flags 1 answers additionals) ++ drop 12 xs) whole
    ∙ ap (λ (f : Flags). header_octets (made_header view.id f 1 answers additionals) ++ (q ++ tail)) flagged
    ∙ ap (λ (n : ℕ). header_octets (made_header view.id (record { 0 = answer_flags view.flags.0 0 0 }) 1 n additionals) ++ (q ++ tail)) answers_is
    ∙ ap (λ (n : ℕ). header_octets (made_header view.id (record { 0 = answer_flags view.flags.0 0 0 }) 1 (length rs) n) ++ (q ++ tail)) additionals_is
    ∙ ap (λ (v : QueryView). header_octets (made_header view.id (record { 0 = answer_flags view.flags.0 0 0 }) 1 (length rs) (opt_number view.opt)) ++ (question_octets v.name v.qtype v.qclass ++ tail)) (sym is)

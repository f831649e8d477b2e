-- Records at their places, and walks over so many of them.
use Rattle.std.proofs.Common.{◌≡◌, ℕ, suc, ◌+◌, ◌-◌, ◌*◌, ◌/◌, ◌%◌, ◌<◌, ◌≤◌, ◌^◌, List, [], ◌∷◌, ◌++◌, length, get_or, take, drop, refl, sym, ◌∙◌, ap, arith}
use Rattle.std.proofs.lemmas.List.{append_assoc, append-nil, drop-drop, length-append, length-drop, length-take-le, take-append-drop}
use Rattle.std.proofs.lemmas.Grind.{flat_map-append}
use Rattle.std.specs.List.{flat_map, AllByRecursion}
use Rattle.lb_name.specs.Laws.{LabelsGoOn}
use Rattle.lb_wire.proofs.Lists.{octet_at}
use Rattle.lb_wire.specs.BigEndian.{two_octets, four_octets}
use Rattle.lb_wire.specs.Record.{Owner, owner_octets, IsOwner, Record, record_octets, IsRecord, Holds}
use Rattle.lb_wire.proofs.OneMessage.{one_u16, one_owner, one_record, nested}

-- two octets are a number
pub number_there : (bytes : List ℕ) (at : ℕ) → ((i : ℕ) → get_or bytes i 0 < 256) → at + 2 ≤ length bytes → (n : ℕ) × (n < 2 ^ 16) × (drop at bytes ≡ two_octets n ++ drop (at + 2) bytes)
number_there bytes at octets within =
    let a = get_or bytes at 0 in
    let b = get_or bytes (at + 1) 0 in
    let small_a : a < 256 = octets at in
    let small_b : b < 256 = octets (at + 1) in
    let n = a * 256 + b in
    let high : a ≡ n / 256 % 256 = omega arith in
    let low : b ≡ n % 256 = omega arith in
    let two : at + 1 + 1 ≡ at + 2 = omega arith in
    let cells : drop at bytes ≡ a ∷ b ∷ drop (at + 2) bytes =
    octet_at bytes at a (omega arith) refl
    ∙ ap (λ (xs : List ℕ). a ∷ xs) (octet_at bytes (at + 1) b (omega arith) refl)
    ∙ ap (λ (k : ℕ). a ∷ b ∷ drop k bytes) two in
    (n, omega arith, cells ∙ ap (λ (k : ℕ). k ∷ b ∷ drop (at + 2) bytes) high ∙ ap (λ (k : ℕ). n / 256 % 256 ∷ k ∷ drop (at + 2) bytes) low)

-- the parts of a record, one after the other, are the record
pub record_there : (bytes : List ℕ) (at len end : ℕ) (owner : Owner) (rtype class ttl size : ℕ) → drop at bytes ≡ owner_octets owner ++ drop len (drop at bytes) → drop (at + len) bytes ≡ two_octets rtype ++ drop (at + len + 2) bytes → drop (at + len + 2) bytes ≡ two_octets class ++ drop (at + len + 2 + 2) bytes → drop (at + len + 4) bytes ≡ four_octets ttl ++ drop (at + len + 4 + 4) bytes → drop (at + len + 8) bytes ≡ two_octets size ++ drop (at + len + 8 + 2) bytes → end ≡ at + len + 10 + size → end ≤ length bytes → drop at bytes ≡ record_octets (record { owner = owner; rtype = rtype; class = class; ttl = ttl; rdata = take size (drop (at + len + 10) bytes) }) ++ drop end bytes
record_there bytes at len end owner rtype class ttl size at_owner at_type at_class at_ttl at_size ends within =
    let four : at + len + 2 + 2 ≡ at + len + 4 = omega arith in
    let eight : at + len + 4 + 4 ≡ at + len + 8 = omega arith in
    let ten : at + len + 8 + 2 ≡ at + len + 10 = omega arith in
    let final : at + len + 10 + size ≡ end = sym ends in
    let rdata = take size (drop (at + len + 10) bytes) in
    let long_enough : length rdata ≡ size = length-take-le size (drop (at + len + 10) bytes) (omega (arith, length-drop (at + len + 10) bytes)) in
    let split : drop (at + len + 10) bytes ≡ rdata ++ drop end bytes =
    sym (take-append-drop size (drop (at + len + 10) bytes)) ∙ ap (λ (xs : List ℕ). rdata ++ xs) (drop-drop size (at + len + 10) bytes ∙ ap (λ (k : ℕ). drop k bytes) final) in
    let sized : drop (at + len + 8) bytes ≡ two_octets (length rdata) ++ (rdata ++ drop end bytes) =
    at_size ∙ ap (λ (k : ℕ). two_octets size ++ drop k bytes) ten ∙ ap (λ (xs : List ℕ). two_octets size ++ xs) split ∙ ap (λ (k : ℕ). two_octets k ++ (rdata ++ drop end bytes)) (sym long_enough) in
    let timed : drop (at + len + 4) bytes ≡ four_octets ttl ++ (two_octets (length rdata) ++ (rdata ++ drop end bytes)) =
    at_ttl ∙ ap (λ (k : ℕ). four_octets ttl ++ drop k bytes) eight ∙ ap (λ (xs : List ℕ). four_octets ttl ++ xs) sized in
    let classed : drop (at + len + 2) bytes ≡ two_octets class ++ (four_octets ttl ++ (two_octets (length rdata) ++ (rdata ++ drop end bytes))) =
    at_class ∙ ap (λ (k : ℕ). two_octets class ++ drop k bytes) four ∙ ap (λ (xs : List ℕ). two_octets class ++ xs) timed in
    let typed : drop (at + len) bytes ≡ two_octets rtype ++ (two_octets class ++ (four_octets ttl ++ (two_octets (length rdata) ++ (rdata ++ drop end bytes)))) =
    at_type ∙ ap (λ (xs : List ℕ). two_octets rtype ++ xs) classed in
    at_owner ∙ ap (λ (xs : List ℕ). owner_octets owner ++ xs) (drop-drop len at bytes ∙ typed) ∙ sym (nested (record { owner = owner; rtype = rtype; class = class; ttl = ttl; rdata = rdata }) (drop end bytes))

-- where an owner stands, the record that stands there has it, and its other parts follow
record_parts : (go : LabelsGoOn) (octets more : List ℕ) (owner : Owner) (r : Record) (rest : List ℕ) → IsOwner owner → IsRecord r → octets ≡ owner_octets owner ++ more → octets ≡ record_octets r ++ rest → (owner ≡ r.owner) × (more ≡ two_octets r.rtype ++ (two_octets r.class ++ (four_octets r.ttl ++ (two_octets (length r.rdata) ++ (r.rdata ++ rest)))))
record_parts go octets more owner r rest is_owner is_record at_owner at_record =
    one_owner go owner r.owner more (two_octets r.rtype ++ (two_octets r.class ++ (four_octets r.ttl ++ (two_octets (length r.rdata) ++ (r.rdata ++ rest))))) is_owner is_record.owner (sym at_owner ∙ at_record ∙ nested r rest)

-- where an owner stands and fewer than ten octets follow it, no record stands
pub no_record_fixed : (go : LabelsGoOn) (bytes : List ℕ) (at len : ℕ) (owner : Owner) → IsOwner owner → drop at bytes ≡ owner_octets owner ++ drop len (drop at bytes) → length bytes - (at + len) < 10 → (r : Record) (rest : List ℕ) → IsRecord r → drop at bytes ≡ record_octets r ++ rest → ⊥
no_record_fixed go bytes at len owner is_owner at_owner short r rest is_record at_record =
    let parts = record_parts go (drop at bytes) (drop len (drop at bytes)) owner r rest is_owner is_record at_owner at_record in
    let size : length (drop (at + len) bytes) ≡ 10 + length (r.rdata ++ rest) = ap (λ (xs : List ℕ). length xs) (sym (drop-drop len at bytes) ∙ parts.1) ∙ omega arith in
    omega (arith, size, length-drop (at + len) bytes)

-- where the data of a record would go past the end, no record stands
pub no_record_data : (go : LabelsGoOn) (bytes : List ℕ) (at len size : ℕ) (owner : Owner) → IsOwner owner → drop at bytes ≡ owner_octets owner ++ drop len (drop at bytes) → size < 2 ^ 16 → drop (at + len + 8) bytes ≡ two_octets size ++ drop (at + len + 8 + 2) bytes → at + len + 10 ≤ length bytes → length bytes < at + len + 10 + size → (r : Record) (rest : List ℕ) → IsRecord r → drop at bytes ≡ record_octets r ++ rest → ⊥
no_record_data go bytes at len size owner is_owner at_owner fits at_size room short r rest is_record at_record =
    let parts = record_parts go (drop at bytes) (drop len (drop at bytes)) owner r rest is_owner is_record at_owner at_record in
    let tail : drop (at + len + 8) bytes ≡ two_octets (length r.rdata) ++ (r.rdata ++ rest) =
    sym (drop-drop 8 (at + len) bytes) ∙ ap (λ (xs : List ℕ). drop 8 xs) (sym (drop-drop len at bytes) ∙ parts.1) in
    let same = one_u16 size (length r.rdata) (drop (at + len + 8 + 2) bytes) (r.rdata ++ rest) fits is_record.rdata (sym at_size ∙ tail) in
    let long : length (drop (at + len + 8 + 2) bytes) ≡ length r.rdata + length rest = ap (λ (xs : List ℕ). length xs) same.1 ∙ length-append r.rdata rest in
    omega (arith, long, same.0, length-drop (at + len + 8 + 2) bytes)

-- a list with one more at its end
each_more : (P : Record → Type 0) (xs : List Record) (x : Record) → AllByRecursion P xs → P x → AllByRecursion P (xs ++ x ∷ [])
each_more P [] x each here = (here, tt)
each_more P (y ∷ ys) x each here = (each.0, each_more P ys x each.1 here)

-- two lists one after the other
each_both : (P : Record → Type 0) (xs ys : List Record) → AllByRecursion P xs → AllByRecursion P ys → AllByRecursion P (xs ++ ys)
each_both P [] ys each others = others
each_both P (x ∷ xs) ys each others = (each.0, each_both P xs ys each.1 others)

-- no record is held before the first
pub Holds-none : (octets : List ℕ) → Holds 0 octets [] octets
Holds-none octets = record { each = tt; number = refl; parts = refl }

-- a record more is held
pub Holds-more : (count : ℕ) (octets there rest : List ℕ) (records : List Record) (r : Record) → Holds count octets records there → IsRecord r → there ≡ record_octets r ++ rest → Holds (count + 1) octets (records ++ r ∷ []) rest
Holds-more count octets there rest records r held is here = record {
  each = each_more IsRecord records r held.each is;
  number = omega (arith, held.number, length-append records (r ∷ []));
  parts = held.parts ∙ ap (λ (xs : List ℕ). flat_map record_octets records ++ xs) (here ∙ ap (λ (xs : List ℕ). xs ++ rest) (sym (append-nil (record_octets r)))) ∙ sym (append_assoc (flat_map record_octets records) (flat_map record_octets (r ∷ [])) rest) ∙ ap (λ (xs : List ℕ). xs ++ rest) (sym (flat_map-append record_octets records (r ∷ [])));
}

-- records after records are held together
pub Holds-both : (m n : ℕ) (octets there rest : List ℕ) (records others : List Record) → Holds m octets records there → Holds n there others rest → Holds (m + n) octets (records ++ others) rest
Holds-both m n octets there rest records others held behind = record {
  each = each_both IsRecord records others held.each behind.each;
  number = length-append records others ∙ omega (arith, held.number, behind.number);
  parts = held.parts ∙ ap (λ (xs : List ℕ). flat_map record_octets records ++ xs) behind.parts ∙ sym (append_assoc (flat_map record_octets records) (flat_map record_octets others) rest) ∙ ap (λ (xs : List ℕ). xs ++ rest) (sym (flat_map-append record_octets records others));
}

-- whatever so many records the whole holds, what is left holds the last of them
abbrev pub LeavesOf : ℕ → ℕ → List ℕ → List ℕ → Type 0
LeavesOf total left whole there = (records : List Record) (rest : List ℕ) → Holds total whole records rest → (others : List Record) × Holds left there others rest

-- what is held of one record more, after the one that stands there
left_by : (go : LabelsGoOn) (left : ℕ) (there after : List ℕ) (r : Record) → IsRecord r → there ≡ record_octets r ++ after → (others : List Record) (rest : List ℕ) → Holds (suc left) there others rest → (more : List Record) × Holds left after more rest
left_by go left there after r is here [] rest held = absurd (omega (arith, held.number))
left_by go left there after r is here (s ∷ others) rest held =
    let grouped : record_octets r ++ after ≡ record_octets s ++ (flat_map record_octets others ++ rest) =
    sym here ∙ held.parts ∙ append_assoc (record_octets s) (flat_map record_octets others) rest in
    let same = one_record go r s after (flat_map record_octets others ++ rest) is held.each.0 grouped in
    (others, record { each = held.each.1; number = omega (arith, held.number); parts = same.1 })

-- past a record, one less is left
pub LeavesOf-more : (go : LabelsGoOn) (total left : ℕ) (whole there after : List ℕ) (r : Record) → LeavesOf total left whole there → 0 < left → IsRecord r → there ≡ record_octets r ++ after → LeavesOf total (left - 1) whole after
LeavesOf-more go total left whole there after r leaves some is here = λ records rest held.
    let old = leaves records rest held in
    let one_less : left ≡ suc (left - 1) = omega arith in
    let again : Holds (suc (left - 1)) there old.0 rest = rw one_less at old.1 in
    left_by go (left - 1) there after r is here old.0 rest again

-- so many records have a first
first_none : (left : ℕ) (there : List ℕ) → ((r : Record) (rest : List ℕ) → IsRecord r → there ≡ record_octets r ++ rest → ⊥) → 0 < left → (others : List Record) (rest : List ℕ) → Holds left there others rest → ⊥
first_none left there none some [] rest held = omega (arith, held.number)
first_none left there none some (s ∷ others) rest held = none s (flat_map record_octets others ++ rest) held.each.0 (held.parts ∙ append_assoc (record_octets s) (flat_map record_octets others) rest)

-- where records are left and none stands, the whole holds no such records
pub LeavesOf-none : (total left : ℕ) (whole there : List ℕ) → LeavesOf total left whole there → 0 < left → ((r : Record) (rest : List ℕ) → IsRecord r → there ≡ record_octets r ++ rest → ⊥) → (records : List Record) (rest : List ℕ) → Holds total whole records rest → ⊥
LeavesOf-none total left whole there leaves some none records rest held =
    let old = leaves records rest held in
    first_none left there none some old.0 rest old.1

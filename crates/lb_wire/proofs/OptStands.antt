-- Where the first OPT of records stands, and its data.
use Rattle.std.proofs.Common.{◌≡◌, ℕ, ◌+◌, ◌-◌, ◌<◌, ◌≤◌, Bool, true, false, List, [], ◌∷◌, ◌++◌, length, take, drop, if◌then◌else◌, refl, sym, ◌∙◌, ap, arith}
use Rattle.std.proofs.lemmas.List.{append_assoc, append-nil, drop-drop, length-append, length-take-le, take_at, drop_at, take-append-drop}
use Rattle.std.proofs.lemmas.List.Elements.{filter-append}
use Rattle.std.proofs.lemmas.Grind.{flat_map-append}
use Rattle.std.specs.List.{flat_map, AllByRecursion}
use Rattle.lb_name.specs.Laws.{LabelsGoOn}
use Rattle.lb_wire.specs.BigEndian.{two_octets, four_octets}
use Rattle.lb_wire.specs.Record.{owner_octets, Record, record_octets, IsRecord}
use Rattle.lb_wire.specs.Opt.{is_opt, opts}
use Rattle.lb_wire.specs.Options.{data_at, DataStands}
use Rattle.lb_wire.proofs.OneMessage.{one_record, nested}

-- so many records before a place are no OPT, and the others stand from there on
pub record PastOthers (bytes : List ℕ) (at place k : ℕ) (records : List Record) (rest : List ℕ) : Type 0 where
  pub before : List Record
  pub todo : List Record
  pub whole : records ≡ before ++ todo
  pub number : length before ≡ k
  pub none : opts before ≡ []
  pub each : AllByRecursion IsRecord todo
  pub there : drop place bytes ≡ flat_map record_octets todo ++ rest
  pub front : drop at bytes ≡ flat_map record_octets before ++ drop place bytes
  pub place_is : place ≡ at + length (flat_map record_octets before)

pub PastOthers-none : (bytes : List ℕ) (at : ℕ) (records : List Record) (rest : List ℕ) → AllByRecursion IsRecord records → drop at bytes ≡ flat_map record_octets records ++ rest → PastOthers bytes at at 0 records rest
PastOthers-none bytes at records rest each here = record { before = []; todo = records; whole = refl; number = refl; none = refl; each = each; there = here; front = refl; place_is = omega arith }

-- the record that is read at the place is the first of those that stand there
pub record First (bytes : List ℕ) (end : ℕ) (read : Record) (todo : List Record) (rest : List ℕ) : Type 0 where
  pub others : List Record
  pub is : todo ≡ read ∷ others
  pub each : AllByRecursion IsRecord others
  pub behind : drop end bytes ≡ flat_map record_octets others ++ rest

pub first_of : (go : LabelsGoOn) (bytes : List ℕ) (place end : ℕ) (read : Record) (todo : List Record) (rest : List ℕ) → IsRecord read → drop place bytes ≡ record_octets read ++ drop end bytes → AllByRecursion IsRecord todo → drop place bytes ≡ flat_map record_octets todo ++ rest → 0 < length todo → First bytes end read todo rest
first_of go bytes place end read [] rest is here each there some = absurd (omega arith)
first_of go bytes place end read (s ∷ others) rest is here each there some =
    let grouped : record_octets read ++ drop end bytes ≡ record_octets s ++ (flat_map record_octets others ++ rest) =
    sym here ∙ there ∙ append_assoc (record_octets s) (flat_map record_octets others) rest in
    let one = one_record go read s (drop end bytes) (flat_map record_octets others ++ rest) is each.0 grouped in
    record { others = others; is = ap (λ (r : Record). r ∷ others) (sym one.0); each = each.1; behind = one.1 }

-- if records are left, one is
pub some_left : (a b : List Record) (records : List Record) (k count : ℕ) → records ≡ a ++ b → length a ≡ k → length records ≡ count → k < count → 0 < length b
some_left a b records k count whole number many less =
    let size = ap (λ (rs : List Record). length rs) whole ∙ length-append a b in
    omega (arith, size, number, many, less)

-- no record is left
pub none_left : (a b : List Record) (records : List Record) (k count : ℕ) → records ≡ a ++ b → length a ≡ k → length records ≡ count → count ≤ k → records ≡ a
none_left a [] records k count whole number many less = whole ∙ append-nil a
none_left a (r ∷ b) records k count whole number many less =
    let size = ap (λ (rs : List Record). length rs) whole ∙ length-append a (r ∷ b) in
    absurd (omega (arith, size, number, many, less))

-- if an OPT is among records of which the first are none, others are left
pub some_todo : (before todo records : List Record) → records ≡ before ++ todo → opts before ≡ [] → 0 < length (opts records) → 0 < length todo
some_todo before [] records whole none some =
    let size = ap (λ (rs : List Record). length (opts rs)) (whole ∙ append-nil before) ∙ ap (λ (rs : List Record). length rs) none in
    absurd (omega (arith, size, some))
some_todo before (r ∷ todo) records whole none some = omega arith

opts_by : (r : Record) (b : Bool) → is_opt r ≡ b → opts (r ∷ []) ≡ (if b then r ∷ [] else [])
opts_by r true is = rw is refl
opts_by r false is = rw is refl

-- a record more that is no OPT
opts_more : (before : List Record) (r : Record) → opts before ≡ [] → is_opt r ≡ false → opts (before ++ r ∷ []) ≡ []
opts_more before r none other = filter-append is_opt before (r ∷ []) ∙ ap (λ (rs : List Record). rs ++ opts (r ∷ [])) none ∙ opts_by r false other

-- a record that is no OPT is passed
pub PastOthers-more : (bytes : List ℕ) (at place end k : ℕ) (r : Record) (records : List Record) (rest : List ℕ) (past : PastOthers bytes at place k records rest) → First bytes end r past.todo rest → drop place bytes ≡ record_octets r ++ drop end bytes → end ≡ place + length (record_octets r) → is_opt r ≡ false → PastOthers bytes at end (k + 1) records rest
PastOthers-more bytes at place end k r records rest past first here ends other =
    let before = past.before ++ r ∷ [] in
    let octets : flat_map record_octets before ≡ flat_map record_octets past.before ++ record_octets r =
    flat_map-append record_octets past.before (r ∷ []) ∙ ap (λ (xs : List ℕ). flat_map record_octets past.before ++ xs) (append-nil (record_octets r)) in
    let size = ap (λ (xs : List ℕ). length xs) octets ∙ length-append (flat_map record_octets past.before) (record_octets r) in
    record {
      before = before;
      todo = first.others;
      whole = past.whole ∙ ap (λ (rs : List Record). past.before ++ rs) first.is ∙ sym (append_assoc past.before (r ∷ []) first.others);
      number = omega (arith, past.number, length-append past.before (r ∷ []));
      none = opts_more past.before r past.none other;
      each = first.each;
      there = first.behind;
      front = past.front ∙ ap (λ (xs : List ℕ). flat_map record_octets past.before ++ xs) here ∙ sym (append_assoc (flat_map record_octets past.before) (record_octets r) (drop end bytes)) ∙ ap (λ (xs : List ℕ). xs ++ drop end bytes) (sym octets);
      place_is = omega (arith, past.place_is, ends, size);
    }

-- if records are left, one stands at the place
pub no_first_of : (bytes : List ℕ) (place : ℕ) (todo : List Record) (rest : List ℕ) → AllByRecursion IsRecord todo → drop place bytes ≡ flat_map record_octets todo ++ rest → 0 < length todo → ((r : Record) (x : List ℕ) → IsRecord r → drop place bytes ≡ record_octets r ++ x → ⊥) → ⊥
no_first_of bytes place [] rest each there some none = omega arith
no_first_of bytes place (s ∷ others) rest each there some none = none s (flat_map record_octets others ++ rest) each.0 (there ∙ append_assoc (record_octets s) (flat_map record_octets others) rest)

-- TYPE, CLASS and TTL on the wire
abbrev pub before_size : Record → List ℕ
before_size r = two_octets r.rtype ++ (two_octets r.class ++ four_octets r.ttl)

regroup : (a b c d xs : List ℕ) → a ++ (b ++ (c ++ (d ++ xs))) ≡ (a ++ (b ++ (c ++ d))) ++ xs
regroup a b c d xs =
    ap (λ (ys : List ℕ). a ++ (b ++ ys)) (sym (append_assoc c d xs))
    ∙ ap (λ (ys : List ℕ). a ++ ys) (sym (append_assoc b (c ++ d) xs))
    ∙ sym (append_assoc a (b ++ (c ++ d)) xs)

-- records with one among them, octet by octet
spread : (before after : List Record) (r : Record) (rest : List ℕ) → flat_map record_octets (before ++ r ∷ after) ++ rest ≡ flat_map record_octets before ++ (owner_octets r.owner ++ (before_size r ++ (two_octets (length r.rdata) ++ (r.rdata ++ (flat_map record_octets after ++ rest)))))
spread before after r rest =
    ap (λ (xs : List ℕ). xs ++ rest) (flat_map-append record_octets before (r ∷ after))
    ∙ append_assoc (flat_map record_octets before) (record_octets r ++ flat_map record_octets after) rest
    ∙ ap (λ (xs : List ℕ). flat_map record_octets before ++ xs) (append_assoc (record_octets r) (flat_map record_octets after) rest ∙ nested r (flat_map record_octets after ++ rest))

-- the OPT that is read stands there
pub stands : (bytes : List ℕ) (at place end k : ℕ) (r : Record) (records : List Record) (rest : List ℕ) (size_at : ℕ) (past : PastOthers bytes at place k records rest) (first : First bytes end r past.todo rest) → drop place bytes ≡ record_octets r ++ drop end bytes → end ≡ place + length (record_octets r) → at ≤ length bytes → size_at ≡ place + length (owner_octets r.owner) + 8 → is_opt r ≡ true → DataStands bytes at records rest size_at end
stands bytes at place end k r records rest size_at past first here ends within place_is is =
    let a = take at bytes in
    let b = flat_map record_octets past.before in
    let c = owner_octets r.owner in
    let d = before_size r in
    let p = a ++ (b ++ (c ++ d)) in
    let tail = two_octets (length r.rdata) ++ (r.rdata ++ drop end bytes) in
    let open_record : drop place bytes ≡ c ++ (d ++ tail) = here ∙ nested r (drop end bytes) in
    let all : bytes ≡ p ++ tail =
    sym (take-append-drop at bytes) ∙ ap (λ (xs : List ℕ). a ++ xs) (past.front ∙ ap (λ (xs : List ℕ). b ++ xs) open_record) ∙ regroup a b c d tail in
    let front_long : length a ≡ at = length-take-le at bytes within in
    let p_long : length p ≡ size_at = omega (arith, front_long, past.place_is, place_is, length-append a (b ++ (c ++ d)), length-append b (c ++ d), length-append c d) in
    let cut : take size_at bytes ≡ p = ap (λ (xs : List ℕ). take size_at xs) all ∙ take_at p tail size_at p_long in
    let at_size : drop size_at bytes ≡ tail = ap (λ (xs : List ℕ). drop size_at xs) all ∙ drop_at p tail size_at p_long in
    let at_data : drop (size_at + 2) bytes ≡ r.rdata ++ drop end bytes = sym (drop-drop 2 size_at bytes) ∙ ap (λ (xs : List ℕ). drop 2 xs) at_size in
    let long : length r.rdata ≡ end - (size_at + 2) = omega (arith, ends, place_is, length-append c (d ++ (two_octets (length r.rdata) ++ r.rdata))) in
    record {
      before = past.before;
      opt = r;
      after = first.others;
      whole = past.whole ∙ ap (λ (rs : List Record). past.before ++ rs) first.is;
      first = past.none;
      is = is;
      is_data = ap (λ (xs : List ℕ). take (end - (size_at + 2)) xs) at_data ∙ take_at r.rdata (drop end bytes) (end - (size_at + 2)) long;
      changed = λ rdata.
          ap (λ (xs : List ℕ). a ++ xs) (spread past.before first.others (record r { rdata = rdata }) rest)
          ∙ regroup a b c d (two_octets (length rdata) ++ (rdata ++ (flat_map record_octets first.others ++ rest)))
          ∙ ap (λ (xs : List ℕ). p ++ (two_octets (length rdata) ++ (rdata ++ xs))) (sym first.behind)
          ∙ ap (λ (xs : List ℕ). xs ++ (two_octets (length rdata) ++ (rdata ++ drop end bytes))) (sym cut);
    }

-- how far the data reaches
pub data_long : (bytes : List ℕ) (place end size_at : ℕ) (r : Record) → end ≡ place + length (record_octets r) → size_at ≡ place + length (owner_octets r.owner) + 8 → IsRecord r → (size_at + 2 ≤ end) × (end < size_at + 2 + 65536)
data_long bytes place end size_at r ends place_is is =
    let size = length-append (owner_octets r.owner) (before_size r ++ (two_octets (length r.rdata) ++ r.rdata)) in
    (omega (arith, ends, place_is, size), omega (arith, ends, place_is, size, is.rdata))

-- what stands after two lists
drop_two : (a b xs : List ℕ) → drop (length a + length b) (a ++ (b ++ xs)) ≡ xs
drop_two a b xs = ap (λ (ys : List ℕ). drop (length a + length b) ys) (sym (append_assoc a b xs)) ∙ drop_at (a ++ b) xs (length a + length b) (length-append a b)

-- the data of a record that stands at a place
pub data_there : (bytes : List ℕ) (place end size_at : ℕ) (r : Record) → drop place bytes ≡ record_octets r ++ drop end bytes → end ≡ place + length (record_octets r) → size_at ≡ place + length (owner_octets r.owner) + 8 → data_at size_at end bytes ≡ r.rdata
data_there bytes place end size_at r here ends place_is =
    let c = owner_octets r.owner in
    let d = before_size r in
    let tail = two_octets (length r.rdata) ++ (r.rdata ++ drop end bytes) in
    let all : drop place bytes ≡ (c ++ d) ++ tail = here ∙ nested r (drop end bytes) ∙ sym (append_assoc c d tail) in
    let p_long : length (c ++ d) ≡ size_at - place = omega (arith, place_is, length-append c d) in
    let place_sum : place + (length (c ++ d) + 2) ≡ size_at + 2 = omega (arith, place_is, length-append c d) in
    let at_data : drop (size_at + 2) bytes ≡ r.rdata ++ drop end bytes =
    ap (λ (k : ℕ). drop k bytes) (sym place_sum) ∙ sym (drop-drop (length (c ++ d) + 2) place bytes) ∙ ap (λ (xs : List ℕ). drop (length (c ++ d) + 2) xs) all ∙ drop_two (c ++ d) (two_octets (length r.rdata)) (r.rdata ++ drop end bytes) in
    let long : length r.rdata ≡ end - (size_at + 2) = omega (arith, ends, place_is, length-append c (d ++ (two_octets (length r.rdata) ++ r.rdata))) in
    ap (λ (xs : List ℕ). take (end - (size_at + 2)) xs) at_data ∙ take_at r.rdata (drop end bytes) (end - (size_at + 2)) long

-- Labels on the wire: what stands there is there in one way only.
use Rattle.std.proofs.Common.{◌≡◌, ℕ, zero, suc, ◌+◌, ◌<◌, ◌≤◌, List, [], ◌∷◌, ◌++◌, length, take, drop, map, refl, sym, ◌∙◌, ap, arith}
use Rattle.std.proofs.lemmas.List.{append-nil, append_assoc, append_cancel_left, take_at, drop_at, take-append-drop, length-append, map-append, length-map}
use Rattle.std.proofs.lemmas.Bool.{lt-ltb, cond-true}
use Rattle.std.proofs.lemmas.Grind.{flat_map-append}
use Rattle.std.specs.List.{AllByRecursion}
use Rattle.std.specs.Char.{to_ascii_lowercase}
use Rattle.lb_name.specs.Name.{IsLabel, label_octets, labels_octets, lower_name, wire_of, IsName, split_labels, labels_of, IsWire}
use Rattle.lb_name.specs.Reading.{Begins, Stops, Faults}
use Rattle.lb_name.specs.Laws.{NoLabel, GoesOn}
use Rattle.lb_name.specs.declared.fault.NameFault.{NameFault}
use Rattle.lb_name.specs.declared.fault.NameFault.TheVariants.{EmptyLabel, LongLabel, LongName, BadByte, Pointer, Cut}

-- two lists that are equal, cut after as many elements
pub halves : {X : Type 0} (a b c d : List X) → length a ≡ length b → a ++ c ≡ b ++ d → (a ≡ b) × (c ≡ d)
halves {X} a b c d same whole = (
  sym (take_at a c (length b) same) ∙ ap (λ (xs : List X). take (length b) xs) whole ∙ take_at b d (length b) refl,
  sym (drop_at a c (length b) same) ∙ ap (λ (xs : List X). drop (length b) xs) whole ∙ drop_at b d (length b) refl,
)

-- a label in hand is split off, whatever follows
split_label : (label rest : List ℕ) → split_labels (length label) (label ++ rest) ≡ (label ++ (split_labels 0 rest).0, (split_labels 0 rest).1)
split_label [] rest = refl
split_label (octet ∷ label) rest = ap (λ (after : List ℕ × List (List ℕ)). (octet ∷ after.0, after.1)) (split_label label rest)

-- no label in hand: what comes first is empty
split_none : (rest : List ℕ) → (split_labels 0 rest).0 ≡ []
split_none [] = refl
split_none (zero ∷ rest) = refl
split_none (suc n ∷ rest) = refl

-- a label after its length is split off
split_one : (label rest : List ℕ) → 0 < length label → split_labels 0 (length label ∷ (label ++ rest)) ≡ ([], label ∷ (split_labels 0 rest).1)
split_one [] rest some = absurd (omega arith)
split_one (octet ∷ label) rest some =
    let after : split_labels (length (octet ∷ label)) ((octet ∷ label) ++ rest) ≡ (octet ∷ label, (split_labels 0 rest).1) =
    split_label (octet ∷ label) rest ∙ ap (λ (xs : List ℕ). ((octet ∷ label) ++ xs, (split_labels 0 rest).1)) (split_none rest) ∙ ap (λ (xs : List ℕ). (xs, (split_labels 0 rest).1)) (append-nil (octet ∷ label)) in
    ap (λ (after : List ℕ × List (List ℕ)). ([], after.0 ∷ after.1)) after

-- labels on the wire are split off one by one
split_all : (labels : List (List ℕ)) (rest : List ℕ) → AllByRecursion IsLabel labels → split_labels 0 (labels_octets labels ++ 0 ∷ rest) ≡ ([], labels)
split_all [] rest each = refl
split_all (label ∷ labels) rest each =
    let grouped : labels_octets (label ∷ labels) ++ 0 ∷ rest ≡ length label ∷ (label ++ (labels_octets labels ++ 0 ∷ rest)) =
    ap (λ (xs : List ℕ). length label ∷ xs) (append_assoc label (labels_octets labels) (0 ∷ rest)) in
    let one : split_labels 0 (length label ∷ (label ++ (labels_octets labels ++ 0 ∷ rest))) ≡ ([], label ∷ (split_labels 0 (labels_octets labels ++ 0 ∷ rest)).1) =
    split_one label (labels_octets labels ++ 0 ∷ rest) each.0.0 in
    let others : (split_labels 0 (labels_octets labels ++ 0 ∷ rest)).1 ≡ labels =
    ap (λ (after : List ℕ × List (List ℕ)). after.1) (split_all labels rest each.1) in
    ap (λ (xs : List ℕ). split_labels 0 xs) grouped ∙ one ∙ ap (λ (ls : List (List ℕ)). ([], label ∷ ls)) others

-- the labels of a name on the wire are its labels, whatever follows
pub labels_of-wire : (labels : List (List ℕ)) (rest : List ℕ) → AllByRecursion IsLabel labels → labels_of (wire_of labels ++ rest) ≡ labels
unfolding labels_of
labels_of-wire labels rest each =
    let grouped : wire_of labels ++ rest ≡ labels_octets labels ++ 0 ∷ rest = append_assoc (labels_octets labels) (0 ∷ []) rest in
    ap (λ (after : List ℕ × List (List ℕ)). after.1) (ap (λ (xs : List ℕ). split_labels 0 xs) grouped ∙ split_all labels rest each)

-- the labels of a name's own octets are its labels
pub labels_of-own : (labels : List (List ℕ)) → AllByRecursion IsLabel labels → labels_of (wire_of labels) ≡ labels
labels_of-own labels each = ap (λ (xs : List ℕ). labels_of xs) (sym (append-nil (wire_of labels))) ∙ labels_of-wire labels [] each

-- a name's own octets are a name on the wire
pub IsWire-own : (labels : List (List ℕ)) → IsName labels → IsWire (wire_of labels)
IsWire-own labels name = record {
  is_name = rw (labels_of-own labels name.each) name;
  parts = rw (labels_of-own labels name.each) refl;
}

-- octets begin with one name at most, and one rest follows it
pub one_name : (octets : List ℕ) (a b : List (List ℕ)) (x y : List ℕ) → Begins octets a x → Begins octets b y → (a ≡ b) × (x ≡ y)
one_name octets a b x y at_a at_b =
    let whole : wire_of a ++ x ≡ wire_of b ++ y = sym at_a.parts ∙ at_b.parts in
    let same : a ≡ b =
    sym (labels_of-wire a x at_a.is_name.each) ∙ ap (λ (xs : List ℕ). labels_of xs) whole ∙ labels_of-wire b y at_b.is_name.each in
    (same, append_cancel_left (wire_of b) x y (ap (λ (ls : List (List ℕ)). wire_of ls ++ x) (sym same) ∙ whole))

-- a length octet is no letter
small_stays : (n : ℕ) → n < 64 → to_ascii_lowercase n ≡ n
small_stays n small = cond-true _ _ _ (lt-ltb n 65 (omega arith))

-- a label in lower case keeps its length octet
lower_label : (label : List ℕ) → IsLabel label → map to_ascii_lowercase (label_octets label) ≡ label_octets (map to_ascii_lowercase label)
lower_label label is = ap (λ (n : ℕ). n ∷ map to_ascii_lowercase label) (small_stays (length label) is.1 ∙ sym (length-map label to_ascii_lowercase))

lower_labels : (labels : List (List ℕ)) → AllByRecursion IsLabel labels → map to_ascii_lowercase (labels_octets labels) ≡ labels_octets (lower_name labels)
lower_labels [] each = refl
lower_labels (label ∷ labels) each =
    map-append to_ascii_lowercase (label_octets label) (labels_octets labels) ∙ ap (λ (xs : List ℕ). xs ++ map to_ascii_lowercase (labels_octets labels)) (lower_label label each.0) ∙ ap (λ (xs : List ℕ). label_octets (map to_ascii_lowercase label) ++ xs) (lower_labels labels each.1)

-- a name on the wire in lower case is the name in lower case on the wire
pub lower_wire : (labels : List (List ℕ)) → AllByRecursion IsLabel labels → map to_ascii_lowercase (wire_of labels) ≡ wire_of (lower_name labels)
lower_wire labels each = map-append to_ascii_lowercase (labels_octets labels) (0 ∷ []) ∙ ap (λ (xs : List ℕ). xs ++ 0 ∷ []) (lower_labels labels each)

pub each_lower : (labels : List (List ℕ)) → AllByRecursion IsLabel labels → AllByRecursion IsLabel (lower_name labels)
each_lower [] each = tt
each_lower (label ∷ labels) each =
    let size : length (map to_ascii_lowercase label) ≡ length label = length-map label to_ascii_lowercase in
    ((omega arith, omega arith), each_lower labels each.1)

-- a name in lower case is a name
pub IsName-lower : (labels : List (List ℕ)) → IsName labels → IsName (lower_name labels)
IsName-lower labels name =
    let size : length (wire_of (lower_name labels)) ≡ length (wire_of labels) =
    ap length (sym (lower_wire labels name.each)) ∙ length-map (wire_of labels) to_ascii_lowercase in
    record {
      each = each_lower labels name.each;
      fits = omega arith;
    }

-- octets that begin with labels, and are labels up to where no label stands, go on with labels
pub goes_on : (front labels : List (List ℕ)) (more tail : List ℕ) → AllByRecursion IsLabel front → AllByRecursion IsLabel labels → NoLabel tail → labels_octets front ++ more ≡ labels_octets labels ++ tail → GoesOn front labels more tail
goes_on [] labels more tail f l ends whole = record { others = labels; each = l; whole = refl; rest = whole }
goes_on (a ∷ front) [] more tail f l ends whole = absurd (ends (length a) ((a ++ labels_octets front) ++ more) (sym whole) f.0.0 f.0.1)
goes_on (a ∷ front) (b ∷ labels) more tail f l ends whole =
    let same : length a ≡ length b = cc whole in
    let tails : (a ++ labels_octets front) ++ more ≡ (b ++ labels_octets labels) ++ tail = cc whole in
    let grouped : a ++ (labels_octets front ++ more) ≡ b ++ (labels_octets labels ++ tail) =
    sym (append_assoc a (labels_octets front) more) ∙ tails ∙ append_assoc b (labels_octets labels) tail in
    let cut = halves a b (labels_octets front ++ more) (labels_octets labels ++ tail) same grouped in
    let after = goes_on front labels more tail f.1 l.1 ends cut.1 in
    let first : a ≡ b = cut.0 in
    record {
      others = after.others;
      each = after.each;
      whole = cc (first, after.whole);
      rest = after.rest;
    }

-- a zero octet and what follows is no label
pub NoLabel-root : (rest : List ℕ) → NoLabel (0 ∷ rest)
NoLabel-root rest n more is some small = let zero_is : 0 ≡ n = cc is in omega arith

-- where a name ends, nothing stops it
no_stop_root : (labels : List (List ℕ)) (rest : List ℕ) (fault : NameFault) → Stops labels (0 ∷ rest) fault → ⊥
no_stop_root labels rest EmptyLabel stops = stops
no_stop_root labels rest LongLabel stops = omega arith
no_stop_root labels rest LongName stops = omega arith
no_stop_root labels rest BadByte stops = stops
no_stop_root labels rest Pointer stops = omega arith
no_stop_root labels rest Cut stops = omega arith

-- where a label of a name stands, nothing stops it
no_stop_label : (labels : List (List ℕ)) (n : ℕ) (more : List ℕ) (fault : NameFault) → 0 < n → n < 64 → n ≤ length more → length (labels_octets labels) + (n + 1) + 1 ≤ 255 → Stops labels (n ∷ more) fault → ⊥
no_stop_label labels n more EmptyLabel some small fits room stops = stops
no_stop_label labels n more LongLabel some small fits room stops = omega arith
no_stop_label labels n more LongName some small fits room stops = omega arith
no_stop_label labels n more BadByte some small fits room stops = stops
no_stop_label labels n more Pointer some small fits room stops = omega arith
no_stop_label labels n more Cut some small fits room stops = omega arith

-- where a name goes on, nothing stops it
no_stop : (front others : List (List ℕ)) (rest more : List ℕ) (fault : NameFault) → AllByRecursion IsLabel others → length (wire_of (front ++ others)) ≤ 255 → more ≡ labels_octets others ++ 0 ∷ rest → Stops front more fault → ⊥
no_stop front [] rest more fault each fits is stops = no_stop_root front rest fault (rw is at stops)
no_stop front (label ∷ others) rest more fault each fits is stops =
    let room : length (labels_octets front) + (length label + 1) + 1 ≤ 255 =
    omega (arith, simp (flat_map-append, length-append) at fits) in
    no_stop_label front (length label) ((label ++ labels_octets others) ++ 0 ∷ rest) fault each.0.0 each.0.1 (simp length-append (omega arith)) room (rw is at stops)

-- octets that begin with a name have no fault
pub no_fault : (octets : List ℕ) (labels : List (List ℕ)) (rest : List ℕ) (fault : NameFault) → Begins octets labels rest → Faults octets fault → ⊥
no_fault octets labels rest fault name faults =
    let whole : labels_octets faults.labels ++ faults.more ≡ labels_octets labels ++ 0 ∷ rest =
    sym faults.parts ∙ name.parts ∙ append_assoc (labels_octets labels) (0 ∷ []) rest in
    let on = goes_on faults.labels labels faults.more (0 ∷ rest) faults.each name.is_name.each (NoLabel-root rest) whole in
    no_stop faults.labels on.others rest faults.more fault on.each (rw on.whole at name.is_name.fits) on.rest faults.stops

-- the octets that were copied are the name that was read
pub labels_of-read : (wire : List ℕ) (labels : List (List ℕ)) → IsName labels → wire ≡ wire_of labels → labels_of wire ≡ labels
labels_of-read wire labels name is = rw is (labels_of-own labels name.each)

pub IsWire-read : (wire : List ℕ) (labels : List (List ℕ)) → IsName labels → wire ≡ wire_of labels → IsWire wire
IsWire-read wire labels name is = rw is (IsWire-own labels name)

-- the octets begin with the name whose octets are as many of the first
pub Begins-front : (octets : List ℕ) (len : ℕ) (labels : List (List ℕ)) → IsName labels → take len octets ≡ wire_of labels → Begins octets labels (drop len octets)
Begins-front octets len labels name is = record {
  is_name = name;
  parts = sym (take-append-drop len octets) ∙ ap (λ (xs : List ℕ). xs ++ drop len octets) is;
}

-- the root is a name of no label
pub IsName-root : IsName []
IsName-root = record { each = tt; fits = omega arith }

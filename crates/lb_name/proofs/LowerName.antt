-- Names without regard to case, and one name under another.
use Rattle.std.proofs.Common.{◌≡◌, ℕ, ◌+◌, ◌<◌, ◌≤◌, ◌↔◌, Bool, IsTrue, List, [], ◌∷◌, ◌++◌, length, drop, map, refl, sym, ◌∙◌, ap, arith}
use Rattle.std.proofs.lemmas.List.{take_at, length-append, length-map}
use Rattle.std.proofs.lemmas.Grind.{flat_map-append}
use Rattle.std.specs.List.{AllByRecursion, refill}
use Rattle.std.specs.Char.{to_ascii_lowercase}
use Rattle.lb_name.specs.Name.{IsLabel, label_octets, labels_octets, wire_of, lower_name, IsSame, IsUnder, labels_of, IsWire}
use Rattle.lb_name.proofs.Names.{labels_of-own, lower_wire, each_lower}

-- octets that were copied and lowered in place are the name in lower case on the wire
pub lowered : (wire copy shown low : List ℕ) → IsWire wire → copy ≡ wire → shown ≡ copy → low ≡ map to_ascii_lowercase shown → refill (length copy) copy low ≡ wire_of (lower_name (labels_of wire))
lowered wire copy shown low is copies shows lowers =
    let low_is : low ≡ map to_ascii_lowercase wire = lowers ∙ ap (λ (xs : List ℕ). map to_ascii_lowercase xs) (shows ∙ copies) in
    let size : length low ≡ length copy = ap length low_is ∙ length-map wire to_ascii_lowercase ∙ ap length (sym copies) in
    take_at low (drop (length low) copy) (length copy) size ∙ low_is ∙ ap (λ (xs : List ℕ). map to_ascii_lowercase xs) is.parts ∙ lower_wire (labels_of wire) is.is_name.each

-- names whose wires are equal in lower case are the same
same_labels : (a b : List (List ℕ)) → AllByRecursion IsLabel a → AllByRecursion IsLabel b → map to_ascii_lowercase (wire_of a) ≡ map to_ascii_lowercase (wire_of b) → IsSame a b
same_labels a b each_a each_b same =
    let wires : wire_of (lower_name a) ≡ wire_of (lower_name b) = sym (lower_wire a each_a) ∙ same ∙ lower_wire b each_b in
    sym (labels_of-own (lower_name a) (each_lower a each_a)) ∙ ap (λ (xs : List ℕ). labels_of xs) wires ∙ labels_of-own (lower_name b) (each_lower b each_b)

pub same_from_wires : (a b : List ℕ) → IsWire a → IsWire b → map to_ascii_lowercase a ≡ map to_ascii_lowercase b → IsSame (labels_of a) (labels_of b)
same_from_wires a b is_a is_b same =
    same_labels (labels_of a) (labels_of b) is_a.is_name.each is_b.is_name.each (ap (λ (xs : List ℕ). map to_ascii_lowercase xs) (sym is_a.parts) ∙ same ∙ ap (λ (xs : List ℕ). map to_ascii_lowercase xs) is_b.parts)

pub wires_from_same : (a b : List ℕ) → IsWire a → IsWire b → IsSame (labels_of a) (labels_of b) → map to_ascii_lowercase a ≡ map to_ascii_lowercase b
wires_from_same a b is_a is_b same =
    ap (λ (xs : List ℕ). map to_ascii_lowercase xs) is_a.parts ∙ lower_wire (labels_of a) is_a.is_name.each ∙ ap (λ (ls : List (List ℕ)). wire_of ls) same ∙ sym (lower_wire (labels_of b) is_b.is_name.each) ∙ ap (λ (xs : List ℕ). map to_ascii_lowercase xs) (sym is_b.parts)

-- labels in lower case take as many octets
length-lower : (labels : List (List ℕ)) → length (labels_octets (lower_name labels)) ≡ length (labels_octets labels)
length-lower [] = refl
length-lower (label ∷ labels) =
    omega (arith, length-lower labels, length-map label to_ascii_lowercase, length-append (map to_ascii_lowercase label) (labels_octets (lower_name labels)), length-append label (labels_octets labels))

-- what stands under a name takes at least its octets
length-under : (a b front : List (List ℕ)) → lower_name a ≡ front ++ lower_name b → length (labels_octets a) ≡ length (labels_octets front) + length (labels_octets b)
length-under a b front is =
    omega (arith, length-lower a, length-lower b, ap (λ (ls : List (List ℕ)). length (labels_octets ls)) is, ap length (flat_map-append label_octets front (lower_name b)), length-append (labels_octets front) (labels_octets (lower_name b)))

-- the name stands under the other exactly where what is left of it does
pub record Walks (name left other : List (List ℕ)) : Type 0 where
  pub down : IsUnder name other → IsUnder left other
  pub up : IsUnder left other → IsUnder name other

-- a name that takes more octets than the other is under it exactly where it is without its first label
under_rest : (label : List ℕ) (a b front : List (List ℕ)) → length (labels_octets b) < length (labels_octets (label ∷ a)) → lower_name (label ∷ a) ≡ front ++ lower_name b → IsUnder a b
under_rest label a b [] more is = let same = length-under (label ∷ a) b [] is in absurd (omega arith)
under_rest label a b (f ∷ front) more is = (front, cc is)

pub Walks-more : (name left other : List (List ℕ)) (label : List ℕ) (rest : List (List ℕ)) → Walks name left other → left ≡ label ∷ rest → length (labels_octets other) < length (labels_octets left) → Walks name rest other
Walks-more name left other label rest walks is more = record {
  down = λ under. let here = rw is at (walks.down under) in under_rest label rest other here.0 (rw is at more) here.1;
  up = λ under. walks.up (rw is (map to_ascii_lowercase label ∷ under.0, ap (λ (ls : List (List ℕ)). map to_ascii_lowercase label ∷ ls) under.1));
}

-- a name that takes no more octets than the other is under it exactly where it is the same
same_from_front : (a b front : List (List ℕ)) → length (labels_octets a) ≤ length (labels_octets b) → lower_name a ≡ front ++ lower_name b → IsSame a b
same_from_front a b [] most is = is
same_from_front a b (f ∷ front) most is =
    absurd (omega (arith, length-under a b (f ∷ front) is, length-append f (labels_octets front)))

pub same_from_under : (a b : List (List ℕ)) → length (labels_octets a) ≤ length (labels_octets b) → IsUnder a b → IsSame a b
same_from_under a b most under = same_from_front a b under.0 most under.1

pub under_from_same : (a b : List (List ℕ)) → IsSame a b → IsUnder a b
under_from_same a b same = ([], same)

-- the octets of the labels are those of the name but for the zero octet
pub length-wire : (wire : List ℕ) → IsWire wire → length wire ≡ length (labels_octets (labels_of wire)) + 1
length-wire wire is = ap length is.parts ∙ length-append (labels_octets (labels_of wire)) (0 ∷ [])

-- a longer wire has labels that take more octets
pub longer : (ours theirs : List ℕ) → IsWire ours → IsWire theirs → length theirs < length ours → length (labels_octets (labels_of theirs)) < length (labels_octets (labels_of ours))
longer ours theirs is_ours is_theirs more = omega (arith, length-wire ours is_ours, length-wire theirs is_theirs)

-- where what is left takes no more octets than the other, the test of the wires tells whether the name is under it
pub under_test : (r : Bool) (ours theirs : List ℕ) (name : List (List ℕ)) → IsWire ours → IsWire theirs → Walks name (labels_of ours) (labels_of theirs) → length ours ≤ length theirs → IsTrue r ↔ (map to_ascii_lowercase ours ≡ map to_ascii_lowercase theirs) → IsTrue r ↔ IsUnder name (labels_of theirs)
under_test r ours theirs name is_ours is_theirs walks most test =
    let fewer : length (labels_octets (labels_of ours)) ≤ length (labels_octets (labels_of theirs)) =
    omega (arith, length-wire ours is_ours, length-wire theirs is_theirs) in (
      λ yes. walks.up (under_from_same _ _ (same_from_wires ours theirs is_ours is_theirs (test.0 yes))),
      λ under. test.1 (wires_from_same ours theirs is_ours is_theirs (same_from_under _ _ fewer (walks.down under))),
    )

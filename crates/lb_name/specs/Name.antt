-- Domain names: labels, wire form and letter case (RFC 1035 sections 2.3.3, 2.3.4 and 3.1).
use Rattle.std.specs.Prelude.{◌≡◌, ℕ, zero, suc, ◌<◌, ◌≤◌, List, [], ◌∷◌, ◌++◌, length, map}
use Rattle.std.specs.List.{flat_map, AllByRecursion}
use Rattle.std.specs.Char.{to_ascii_lowercase}

-- a label is 1 to 63 octets (section 2.3.4)
abbrev pub IsLabel : List ℕ → Type 0
IsLabel label = (0 < length label) × (length label < 64)

-- a label on the wire: its length, then its octets (section 3.1)
abbrev pub label_octets : List ℕ → List ℕ
label_octets label = length label ∷ label

-- labels on the wire, one after the other
abbrev pub labels_octets : List (List ℕ) → List ℕ
labels_octets labels = flat_map label_octets labels

-- a name on the wire: its labels, then a zero octet for the root (section 3.1)
abbrev pub wire_of : List (List ℕ) → List ℕ
wire_of labels = labels_octets labels ++ 0 ∷ []

-- labels that make a name: each a label, and at most 255 octets on the wire (section 2.3.4)
pub record IsName (labels : List (List ℕ)) : Type 0 where
  pub each : AllByRecursion IsLabel labels
  pub fits : length (wire_of labels) ≤ 255

-- the name in lower case: ASCII letters alone change (section 2.3.3)
abbrev pub lower_name : List (List ℕ) → List (List ℕ)
lower_name labels = map (map to_ascii_lowercase) labels

-- the names are equal without regard to the case of ASCII letters (section 2.3.3)
abbrev pub IsSame : List (List ℕ) → List (List ℕ) → Type 0
IsSame a b = lower_name a ≡ lower_name b

-- the first name is the second or stands below it: its last labels are the second's, without regard to case
-- (RFC 1034 section 3.1)
abbrev pub IsUnder : List (List ℕ) → List (List ℕ) → Type 0
IsUnder a b = (front : List (List ℕ)) × (lower_name a ≡ front ++ lower_name b)

-- the octets of the label in hand, of which so many are to come, and the labels after it
abbrev pub split_labels : ℕ → List ℕ → List ℕ × List (List ℕ)
split_labels left [] = ([], [])
split_labels zero (zero ∷ wire) = ([], [])
split_labels zero (suc n ∷ wire) = let after = split_labels (suc n) wire in ([], after.0 ∷ after.1)
split_labels (suc left) (octet ∷ wire) = let after = split_labels left wire in (octet ∷ after.0, after.1)

-- the labels of a name on the wire, up to its zero octet
unfoldable pub labels_of : List ℕ → List (List ℕ)
labels_of wire = (split_labels 0 wire).1

-- the octets are a name on the wire, and nothing else
pub record IsWire (wire : List ℕ) : Type 0 where
  pub is_name : IsName (labels_of wire)
  pub parts : wire ≡ wire_of (labels_of wire)

-- What holds of names on the wire and as text.
use Rattle.std.specs.Prelude.{◌≡◌, ℕ, ◌+◌, ◌<◌, ◌≤◌, IsTrue, Ok, List, ◌∷◌, ◌++◌, length, drop, map}
use Rattle.std.specs.List.{AllByRecursion}
use Rattle.std.specs.Char.{to_ascii_lowercase}
use Rattle.lb_name.specs.Name.{IsLabel, labels_octets, wire_of, IsName, lower_name, labels_of}
use Rattle.lb_name.specs.Reading.{Begins, Passed}
use Rattle.lb_name.specs.Text.{has_name_bytes, name_of_text, text_of}

-- octets begin with one name at most, and one rest follows it
abbrev pub OneName : Type 0
OneName = (octets : List ℕ) (a b : List (List ℕ)) (x y : List ℕ) → Begins octets a x → Begins octets b y → (a ≡ b) × (x ≡ y)

-- splitting a name's octets into labels gives back its labels, whatever follows them
abbrev pub SplitsBack : Type 0
SplitsBack = (labels : List (List ℕ)) (rest : List ℕ) → AllByRecursion IsLabel labels → labels_of (wire_of labels ++ rest) ≡ labels

-- no label stands at the front of the octets
abbrev pub NoLabel : List ℕ → Type 0
NoLabel tail = (n : ℕ) (more : List ℕ) → tail ≡ n ∷ more → 0 < n → n < 64 → ⊥

-- the labels are the front and others, and the others stand where the front ended
pub record GoesOn (front labels : List (List ℕ)) (more tail : List ℕ) : Type 0 where
  pub others : List (List ℕ)
  pub each : AllByRecursion IsLabel others
  pub whole : labels ≡ front ++ others
  pub rest : more ≡ labels_octets others ++ tail

-- octets that begin with labels, and are labels up to where no label stands, go on with labels
abbrev pub LabelsGoOn : Type 0
LabelsGoOn = (front labels : List (List ℕ)) (more tail : List ℕ) → AllByRecursion IsLabel front → AllByRecursion IsLabel labels → NoLabel tail → labels_octets front ++ more ≡ labels_octets labels ++ tail → GoesOn front labels more tail

-- past labels that could begin a name, a label that leaves room for the zero octet is passed
abbrev pub LabelIsPassed : Type 0
LabelIsPassed = (octets : List ℕ) (place n : ℕ) → Passed octets place → drop place octets ≡ n ∷ drop (place + 1) octets → 0 < n → n < 64 → place + 1 + n ≤ length octets → place + 1 + n + 1 ≤ 255 → Passed octets (place + 1 + n)

-- in lower case, the octets of a name are those of the name in lower case (RFC 1035 section 2.3.3): a length octet is
-- no letter
abbrev pub LowersOnWire : Type 0
LowersOnWire = (labels : List (List ℕ)) → AllByRecursion IsLabel labels → map to_ascii_lowercase (wire_of labels) ≡ wire_of (lower_name labels)

-- the text of a name of letters, digits, `-`, `_` and `*` reads as that name
abbrev pub TextRoundTrip : Type 0
TextRoundTrip = (labels : List (List ℕ)) → IsName labels → IsTrue (has_name_bytes labels) → name_of_text (text_of labels) ≡ Ok labels

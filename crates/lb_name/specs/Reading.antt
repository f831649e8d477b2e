-- Reading a name from octets (RFC 1035 section 3.1), and what stops it.
use Rattle.std.specs.Prelude.{◌≡◌, ℕ, ◌+◌, ◌<◌, ◌≤◌, List, [], ◌∷◌, ◌++◌, length, take}
use Rattle.std.specs.List.{AllByRecursion}
use Rattle.lb_name.specs.Name.{IsLabel, labels_octets, wire_of, IsName}
use Rattle.lb_name.specs.declared.fault.NameFault.{NameFault}
use Rattle.lb_name.specs.declared.fault.NameFault.TheVariants.{LongLabel, LongName, Pointer, Cut}

-- the octets begin with the name, and the rest follows
pub record Begins (octets : List ℕ) (labels : List (List ℕ)) (rest : List ℕ) : Type 0 where
  pub is_name : IsName labels
  pub parts : octets ≡ wire_of labels ++ rest

-- what stands where the next label would begin, so that these labels go on to no name: at a length octet, the first
-- of these that applies: it is not there; it is 192 or more; it is 64 to 191; its label does not fit; the label and
-- a zero octet go past 255
abbrev pub Stops : List (List ℕ) → List ℕ → NameFault → Type 0
Stops labels [] Cut = Unit {0}
Stops labels (n ∷ more) Pointer = 192 ≤ n
Stops labels (n ∷ more) LongLabel = (64 ≤ n) × (n < 192)
Stops labels (n ∷ more) Cut = (0 < n) × (n < 64) × (length more < n)
Stops labels (n ∷ more) LongName = (0 < n) × (n < 64) × (n ≤ length more) × (255 < length (labels_octets labels) + (n + 1) + 1)
Stops labels _ _ = ⊥

-- the octets are labels that could begin a name, and then what stops it
pub record Faults (octets : List ℕ) (fault : NameFault) : Type 0 where
  pub labels : List (List ℕ)
  pub more : List ℕ
  pub each : AllByRecursion IsLabel labels
  pub fits : length (wire_of labels) ≤ 255
  pub parts : octets ≡ labels_octets labels ++ more
  pub stops : Stops labels more fault

-- the octets up to a place are labels that could begin a name
pub record Passed (octets : List ℕ) (place : ℕ) : Type 0 where
  pub labels : List (List ℕ)
  pub each : AllByRecursion IsLabel labels
  pub fits : length (wire_of labels) ≤ 255
  pub within : place ≤ length octets
  pub long : place ≡ length (labels_octets labels)
  pub front : take place octets ≡ labels_octets labels

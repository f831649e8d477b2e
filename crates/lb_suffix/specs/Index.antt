-- Names with ranks, as they are filed.
use Rattle.std.specs.Prelude.{◌≡◌, ℕ, List, ◌++◌, Option, None, Some, Contains, ◌⊎◌, ◌↔◌}
use Rattle.std.specs.declared.cmp.Ordering.{Ordering}
use Rattle.std.specs.List.Sorted.{IsStrictlySortedBy}
use Rattle.lb_name.specs.Name.{lower_name, IsUnder}
use Rattle.lb_index_ranks.specs.declared.filed.Filed.{Filed}
use Rattle.lb_index_ranks.specs.Filed.{filed_at, filed_cmp}
use Rattle.lb_suffix.specs.Key.{name_of, reversed_octets}

-- a rank that is filed under a name in lower case
pub record Pair : Type 0 where
  pub name : List (List ℕ)
  pub rank : ℕ

abbrev pub pair_of : List (List ℕ) → ℕ → Pair
pair_of name rank = record { name = lower_name name; rank = rank }

-- a pair as it is kept
abbrev pub kept_at : Pair → Filed
kept_at pair = filed_at (reversed_octets pair.name) pair.rank

-- a kept pair as contracts see it
abbrev pub shown : Filed → Pair
shown filed = record { name = name_of filed.key; rank = filed.rank }

-- by name, label by label from the root, a label before a longer one and a name before those below it; then by rank
abbrev pub pair_cmp : Pair → Pair → Ordering
pair_cmp a b = filed_cmp (kept_at a) (kept_at b)

-- each pair stands before those after it: so none is there twice
abbrev pub ArePairsInOrder : List Pair → Type 0
ArePairsInOrder pairs = IsStrictlySortedBy pair_cmp pairs

-- the same pairs are there
abbrev pub HaveSame : List Pair → List Pair → Type 0
HaveSame a b = (p : Pair) → Contains a p ↔ Contains b p

-- the rank is filed at this very name
abbrev pub IsFiledAtName : List Pair → List (List ℕ) → ℕ → Type 0
IsFiledAtName pairs name rank = Contains pairs (pair_of name rank)

-- the rank is filed at the name or above it
abbrev pub IsFiledOver : List Pair → List (List ℕ) → ℕ → Type 0
IsFiledOver pairs name rank = (suffix : List (List ℕ)) × Contains pairs (pair_of suffix rank) × IsUnder name suffix

-- a name in lower case is this one or stands below it (RFC 1034 section 3.1)
abbrev pub IsBelow : List (List ℕ) → List (List ℕ) → Type 0
IsBelow lower name = (front : List (List ℕ)) × (lower ≡ front ++ lower_name name)

-- the pair is filed at the name or below it
abbrev pub IsFiledUnder : List Pair → List (List ℕ) → Pair → Type 0
IsFiledUnder pairs name pair = Contains pairs pair × IsBelow pair.name name

-- the pairs with one more
abbrev pub IsFiledWith : List Pair → Pair → List Pair → Type 0
IsFiledWith old pair new = (p : Pair) → Contains new p ↔ ((p ≡ pair) ⊎ Contains old p)

-- the pairs but for one
abbrev pub IsFiledWithout : List Pair → Pair → List Pair → Type 0
IsFiledWithout old pair new = (p : Pair) → Contains new p ↔ ((p ≡ pair → ⊥) × Contains old p)

-- one pair at or below the name is taken out and its rank is told; where there is none, nothing changes
abbrev pub TakesUnder : List (List ℕ) → List Pair → Option ℕ → List Pair → Type 0
TakesUnder name old None new = ((p : Pair) → IsFiledUnder old name p → ⊥) × (new ≡ old)
TakesUnder name old (Some rank) new = (p : Pair) × (p.rank ≡ rank) × IsFiledUnder old name p × IsFiledWithout old p new

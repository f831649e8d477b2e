-- Ranks that are filed under keys: pairs, and their order.
use Rattle.std.specs.Prelude.{◌≡◌, ◌⊎◌, ℕ, List, [], ◌∷◌, ◌++◌, Bool, true, false, Contains, ◌↔◌, Option, None, Some}
use Rattle.std.specs.Ordering.{nat_cmp, ordering_then, is_lt}
use Rattle.std.specs.Cmp.Lexicographic.{slice_cmp}
use Rattle.std.specs.declared.cmp.Ordering.{Ordering}
use Rattle.std.specs.List.{AllByRecursion}
use Rattle.std.specs.List.Sorted.{IsStrictlySortedBy}
use Rattle.lb_index_ranks.specs.declared.filed.Filed.{Filed}

-- the pair of a key and a rank
abbrev pub filed_at : List ℕ → ℕ → Filed
filed_at key rank = record { key = key; rank = rank }

-- by key, octet by octet, a key before those that go on from it; and then by rank
abbrev pub filed_cmp : Filed → Filed → Ordering
filed_cmp a b = ordering_then (slice_cmp nat_cmp a.key b.key) (nat_cmp a.rank b.rank)

-- whether a pair stands before this one
abbrev pub is_before : Filed → Filed → Bool
is_before at filed = is_lt (filed_cmp filed at)

-- each pair stands before those after it: so none is there twice, and equal sets of pairs are equal lists
abbrev pub AreInOrder : List Filed → Type 0
AreInOrder items = IsStrictlySortedBy filed_cmp items

-- the rank is filed under the key
abbrev pub IsFiledAt : List Filed → List ℕ → ℕ → Type 0
IsFiledAt items key rank = Contains items (filed_at key rank)

-- what was there, and this besides
abbrev pub HasBesides : List Filed → Filed → List Filed → Type 0
HasBesides old filed new = (f : Filed) → Contains new f ↔ ((f ≡ filed) ⊎ Contains old f)

-- what was there but for this
abbrev pub HasBut : List Filed → Filed → List Filed → Type 0
HasBut old filed new = (f : Filed) → Contains new f ↔ ((f ≡ filed → ⊥) × Contains old f)

-- the pairs of the front stand before this one, and those of the back do not
pub record IsCut (at : Filed) (front back : List Filed) : Type 0 where
  pub before : AllByRecursion (λ f. is_before at f ≡ true) front
  pub after : AllByRecursion (λ f. is_before at f ≡ false) back

-- the pairs from this one on: what is left of them where those that stand before it are taken away
pub record IsFrom (at : Filed) (items rest : List Filed) : Type 0 where
  pub front : List Filed
  pub whole : items ≡ front ++ rest
  pub cut : IsCut at front rest

-- the first pair whose key stands at or after the one and before the other
pub record IsFirstWithin (low high : List ℕ) (items : List Filed) (filed : Filed) : Type 0 where
  pub has : Contains items filed
  pub from : is_before (filed_at low 0) filed ≡ false
  pub below : is_before (filed_at high 0) filed ≡ true
  pub first : (f : Filed) → Contains items f → is_before (filed_at low 0) f ≡ false → is_before filed f ≡ false

-- no key stands at or after the one and before the other
abbrev pub IsNoneWithin : List ℕ → List ℕ → List Filed → Type 0
IsNoneWithin low high items = (f : Filed) → Contains items f → is_before (filed_at low 0) f ≡ false → is_before (filed_at high 0) f ≡ true → ⊥

-- the first pair with a key within is taken out and its rank is told, and where there is none nothing changes
abbrev pub TakesFirst : List ℕ → List ℕ → List Filed → Option ℕ → List Filed → Type 0
TakesFirst low high old None new = IsNoneWithin low high old × (new ≡ old)
TakesFirst low high old (Some rank) new = (filed : Filed) × IsFirstWithin low high old filed × (rank ≡ filed.rank) × HasBut old filed new

-- the pairs that do not stand before the one but before the other are cut out of the others, and all keep their order
pub record IsCutOut (low high : Filed) (items cut new : List Filed) : Type 0 where
  pub front : List Filed
  pub back : List Filed
  pub whole : items ≡ front ++ (cut ++ back)
  pub left : new ≡ front ++ back
  pub from : IsCut low front (cut ++ back)
  pub below : IsCut high (front ++ cut) back

-- the last pair is taken out and its rank is told, and where there is none nothing changes
abbrev pub TakesLast : List Filed → Option ℕ → List Filed → Type 0
TakesLast old None new = (old ≡ []) × (new ≡ old)
TakesLast old (Some rank) new = (filed : Filed) × (old ≡ new ++ filed ∷ []) × (rank ≡ filed.rank)

-- What selectors ask first, and ranks that are filed by that.
use Rattle.std.specs.Prelude.{◌≡◌, ◌⊎◌, ◌↔◌, ℕ, ◌<◌, Bool, true, false, List, [], ◌∷◌, Contains, length, map, slice_index}
use Rattle.lb_wire.specs.declared.addr.Addr.{Addr}
use Rattle.lb_wire.specs.declared.query.QueryView.{QueryView}
use Rattle.lb_masks.specs.Mask.{Prefix}
use Rattle.lb_suffix.specs.Index.{Pair as NamePair, pair_of as name_pair}
use Rattle.lb_masks.specs.Index.{Pair as MaskPair, pair_of as mask_pair}
use Rattle.lb_terms.specs.Selector.{Selector, All, Suffix, Masks, Qtype, And, Or, Not, MaxQps, Selectors, end, more}
use Rattle.lb_terms.specs.Sets.{in_group, in_suffixes}

-- whether a selector may hold, by what it asks first: a set of names or of masks, itself or as the first member of nested
-- Ands; each other one may
abbrev mutual
  pub may_hold : Selector → QueryView → Addr → Bool
  may_hold All view addr = true
  may_hold (Suffix names) view addr = in_suffixes names view.name
  may_hold (Masks group) view addr = in_group group addr
  may_hold (Qtype qtype) view addr = true
  may_hold (And members) view addr = first_may_hold members view addr
  may_hold (Or members) view addr = true
  may_hold (Not member) view addr = true
  may_hold (MaxQps qps v4 v6) view addr = true

  pub first_may_hold : Selectors → QueryView → Addr → Bool
  first_may_hold end view addr = true
  first_may_hold (more member members) view addr = may_hold member view addr

-- names and masks under which a rank is filed, and whether it is filed among the loose ones
pub record Sets : Type 0 where
  pub names : List (List (List ℕ))
  pub masks : List Prefix
  pub is_loose : Bool

-- a selector that asks for no set first is loose
abbrev pub loose : Sets
loose = record { names = []; masks = []; is_loose = true }

-- the set that a selector asks for first, as `may_hold` has it
abbrev mutual
  pub first_sets : Selector → Sets
  first_sets All = loose
  first_sets (Suffix names) = record { names = names; masks = []; is_loose = false }
  first_sets (Masks group) = record { names = []; masks = group; is_loose = false }
  first_sets (Qtype qtype) = loose
  first_sets (And members) = first_member_sets members
  first_sets (Or members) = loose
  first_sets (Not member) = loose
  first_sets (MaxQps qps v4 v6) = loose

  pub first_member_sets : Selectors → Sets
  first_member_sets end = loose
  first_member_sets (more member members) = first_sets member

-- the pairs of a rank with names, and with masks
abbrev pub at_names : List (List (List ℕ)) → ℕ → List NamePair
at_names names rank = map (λ name. name_pair name rank) names

abbrev pub at_masks : List Prefix → ℕ → List MaskPair
at_masks masks rank = map (λ mask. mask_pair mask rank) masks

-- those under which the rank of a selector is filed
abbrev pub name_pairs : Selector → ℕ → List NamePair
name_pairs term rank = at_names (first_sets term).names rank

abbrev pub mask_pairs : Selector → ℕ → List MaskPair
mask_pairs term rank = at_masks (first_sets term).masks rank

-- the rank, where it is filed among the loose ones
abbrev pub at_loose : Bool → ℕ → List ℕ
at_loose true rank = rank ∷ []
at_loose false rank = []

abbrev pub loose_ranks : Selector → ℕ → List ℕ
loose_ranks term rank = at_loose (first_sets term).is_loose rank

-- the value is one of these
abbrev pub IsOneOf : {X : Type 0} → List X → X → Type 0
IsOneOf [] x = ⊥
IsOneOf (y ∷ ys) x = (x ≡ y) ⊎ IsOneOf ys x

-- the pair is one of those of some selector with its rank
abbrev pub IsPairOf : {X : Type 0} → (Selector → ℕ → List X) → List Selector → List ℕ → X → Type 0
IsPairOf pairs [] ranks x = ⊥
IsPairOf pairs (term ∷ terms) [] x = ⊥
IsPairOf pairs (term ∷ terms) (rank ∷ ranks) x = IsOneOf (pairs term rank) x ⊎ IsPairOf pairs terms ranks x

-- each rank is above those before it
abbrev pub AreRising : List ℕ → Type 0
AreRising ranks = (i j : ℕ) → i < j → j < length ranks → slice_index ranks i < slice_index ranks j

-- each selector has a rank, in their order, and is filed under it by what it asks first; nothing else is filed
pub record AreFiled (names : List NamePair) (masks : List MaskPair) (loose : List ℕ) (ranks : List ℕ) (terms : List Selector) : Type 0 where
  pub each : length ranks ≡ length terms
  pub rising : AreRising ranks
  pub by_names : (p : NamePair) → Contains names p ↔ IsPairOf name_pairs terms ranks p
  pub by_masks : (p : MaskPair) → Contains masks p ↔ IsPairOf mask_pairs terms ranks p
  pub by_loose : (r : ℕ) → Contains loose r ↔ IsPairOf loose_ranks terms ranks r

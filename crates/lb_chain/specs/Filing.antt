-- Ranks filed and taken out, and ranks that are free.
use Rattle.std.specs.Prelude.{◌⊎◌, ◌↔◌, ◌≡◌, ℕ, ◌+◌, ◌*◌, ◌<◌, ◌≤◌, false, List, [], Contains, length, slice_index}
use Rattle.lb_wire.specs.declared.addr.Addr.{Addr}
use Rattle.lb_wire.specs.declared.query.QueryView.{QueryView}
use Rattle.lb_suffix.specs.Index.{Pair as NamePair, IsFiledOver}
use Rattle.lb_masks.specs.Index.{Pair as MaskPair, IsFiledCovering}
use Rattle.lb_terms.specs.Selector.{Selector, All, Suffix, Masks, Qtype, And, Or, Not, MaxQps}
use Rattle.lb_chain.specs.FirstAsked.{IsOneOf, loose, Sets}

-- the set that a selector is itself
abbrev pub own_sets : Selector → Sets
own_sets All = loose
own_sets (Suffix names) = record { names = names; masks = []; is_loose = false }
own_sets (Masks group) = record { names = []; masks = group; is_loose = false }
own_sets (Qtype qtype) = loose
own_sets (And members) = loose
own_sets (Or members) = loose
own_sets (Not member) = loose
own_sets (MaxQps qps v4 v6) = loose

-- what was filed, and these
abbrev pub AreWith : {X : Type 0} → List X → List X → List X → Type 0
AreWith {X} old pairs new = (p : X) → Contains new p ↔ (IsOneOf pairs p ⊎ Contains old p)

-- what was filed, but for these
abbrev pub AreWithout : {X : Type 0} → List X → List X → List X → Type 0
AreWithout {X} old pairs new = (p : X) → Contains new p ↔ ((IsOneOf pairs p → ⊥) × Contains old p)

-- none of these is filed
abbrev pub AreNew : {X : Type 0} → List X → List X → Type 0
AreNew {X} old pairs = (p : X) → IsOneOf pairs p → Contains old p → ⊥

-- what was filed, where none of these was
abbrev pub AreTakenBack : {X : Type 0} → List X → List X → List X → Type 0
AreTakenBack {X} old pairs new = AreNew old pairs → (p : X) → Contains new p ↔ Contains old p

-- the rank is above those before the place and below those from it on
pub record IsFree (ranks : List ℕ) (place rank : ℕ) : Type 0 where
  pub above : (k : ℕ) → k < place → slice_index ranks k < rank
  pub below : (k : ℕ) → place ≤ k → k < length ranks → rank < slice_index ranks k

-- 2^50 between a rank and the next, and before the first
abbrev pub AreEven : List ℕ → Type 0
AreEven ranks = (k : ℕ) → k < length ranks → slice_index ranks k ≡ (k + 1) * 1125899906842624

-- the rank is filed at the name or above it, or under a mask that covers the address
abbrev pub IsFiledFor : List NamePair → List MaskPair → QueryView → Addr → ℕ → Type 0
IsFiledFor names masks view addr rank = IsFiledOver names view.name rank ⊎ IsFiledCovering masks addr rank

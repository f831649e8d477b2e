-- Slots in order, by their neighbours.
use Rattle.std.specs.Prelude.{◌≡◌, ⊤, ℕ, zero, suc, ◌+◌, ◌<◌, ◌^◌, Bool, false, ◌==◌, cond, List, [], ◌∷◌, length, slice_index_or}
use Rattle.std.specs.List.{AllByRecursion, list_any}
use Rattle.lb_index_ring.specs.declared.ring.Links.{Links}

-- what stands past the end: the neighbours of the end of an empty ring
abbrev pub ends : Links
ends = record { prev = 0; next = 0 }

abbrev pub next_of : List Links → ℕ → ℕ
next_of links k = (slice_index_or links k ends).next

abbrev pub prev_of : List Links → ℕ → ℕ
prev_of links k = (slice_index_or links k ends).prev

-- so many slots, from one on
abbrev pub trail : (ℕ → ℕ) → ℕ → ℕ → List ℕ
trail next k zero = []
trail next k (suc n) = k ∷ trail next (next k) n

-- the slots in order
abbrev pub slots_of : List Links → ℕ → List ℕ
slots_of links len = trail (next_of links) (next_of links 0) len

-- whether a slot is another one, and whether it is in a list
abbrev pub is_slot : ℕ → ℕ → Bool
is_slot slot k = slot == k

abbrev pub has : ℕ → List ℕ → Bool
has slot slots = list_any (is_slot slot) slots

-- the first slot, 0 where there is none
abbrev pub first_of : List ℕ → ℕ
first_of [] = 0
first_of (k ∷ ks) = k

-- the slot after another one, 0 where that is the last
abbrev pub after : ℕ → List ℕ → ℕ
after slot [] = 0
after slot (k ∷ ks) = cond (is_slot slot k) (first_of ks) (after slot ks)

-- the slot ahead of another one, where the first has this one ahead of it
abbrev pub before : ℕ → ℕ → List ℕ → ℕ
before ahead slot [] = 0
before ahead slot (k ∷ ks) = cond (is_slot slot k) ahead (before k slot ks)

-- a list without a slot
abbrev pub without : ℕ → List ℕ → List ℕ
without slot [] = []
without slot (k ∷ ks) = cond (is_slot slot k) ks (k ∷ without slot ks)

-- a list with a slot after another one, or in front where that is 0
abbrev pub put_after : ℕ → ℕ → List ℕ → List ℕ
put_after prev slot [] = []
put_after prev slot (k ∷ ks) = cond (is_slot prev k) (k ∷ slot ∷ ks) (k ∷ put_after prev slot ks)

abbrev pub put_behind : ℕ → ℕ → List ℕ → List ℕ
put_behind prev slot slots = cond (prev == 0) (slot ∷ slots) (put_after prev slot slots)

-- from a slot through others to a last one, forth and back
abbrev pub IsPath : (ℕ → ℕ) → (ℕ → ℕ) → ℕ → List ℕ → ℕ → Type 0
IsPath next prev a [] b = (next a ≡ b) × (prev b ≡ a)
IsPath next prev a (s ∷ ss) b = (next a ≡ s) × (prev s ≡ a) × IsPath next prev s ss b

-- none of the slots is this one; no two are the same
abbrev pub Lacks : ℕ → List ℕ → Type 0
Lacks slot slots = AllByRecursion (λ k. is_slot slot k ≡ false) slots

abbrev pub Distinct : List ℕ → Type 0
Distinct [] = ⊤
Distinct (k ∷ ks) = Lacks k ks × Distinct ks

pub record IsRing (links : List Links) (len : ℕ) : Type 0 where
  pub path : IsPath (next_of links) (prev_of links) 0 (slots_of links len) 0
  pub ends_lack : Lacks 0 (slots_of links len)
  pub distinct : Distinct (slots_of links len)
  pub within : AllByRecursion (λ k. k < length links) (slots_of links len)
  pub start : 0 < len → 0 < length links
  pub small : len + 1 < 2 ^ 64

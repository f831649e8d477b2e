-- The pairs of selectors with their ranks.
use Rattle.std.proofs.Common.{◌≡◌, ◌⊎◌, ℕ, zero, suc, ◌<◌, ◌≤◌, List, [], ◌∷◌, length, map, get_or, inl, inr, sym, subst, arith}
use Rattle.std.specs.List.{insert, remove}
use Rattle.lb_terms.specs.Selector.{Selector, All}
use Rattle.lb_chain.specs.FirstAsked.{IsOneOf, IsPairOf}

-- with one more
pub in_inserted : {X : Type 0} (pairs : Selector → ℕ → List X) (terms : List Selector) (ranks : List ℕ) (place rank : ℕ) (term : Selector) (x : X) → place ≤ length terms → length ranks ≡ length terms → IsPairOf pairs (insert terms place term) (insert ranks place rank) x → IsOneOf (pairs term rank) x ⊎ IsPairOf pairs terms ranks x
in_inserted pairs [] [] zero rank term x le each has = has
in_inserted pairs [] [] (suc place) rank term x le each has = absurd (omega arith)
in_inserted pairs [] (r ∷ ranks) place rank term x le each has = absurd (omega arith)
in_inserted pairs (t ∷ terms) [] place rank term x le each has = absurd (omega arith)
in_inserted pairs (t ∷ terms) (r ∷ ranks) zero rank term x le each has = has
in_inserted pairs (t ∷ terms) (r ∷ ranks) (suc place) rank term x le each has =
    elim has [
      | inl first ↦ inr (inl first)
      | inr later ↦ elim (in_inserted pairs terms ranks place rank term x (omega arith) (omega arith) later) [ inl own ↦ inl own | inr rest ↦ inr (inr rest) ]
    ]

pub inserted_in : {X : Type 0} (pairs : Selector → ℕ → List X) (terms : List Selector) (ranks : List ℕ) (place rank : ℕ) (term : Selector) (x : X) → place ≤ length terms → length ranks ≡ length terms → IsOneOf (pairs term rank) x ⊎ IsPairOf pairs terms ranks x → IsPairOf pairs (insert terms place term) (insert ranks place rank) x
inserted_in pairs [] [] zero rank term x le each has = has
inserted_in pairs [] [] (suc place) rank term x le each has = absurd (omega arith)
inserted_in pairs [] (r ∷ ranks) place rank term x le each has = absurd (omega arith)
inserted_in pairs (t ∷ terms) [] place rank term x le each has = absurd (omega arith)
inserted_in pairs (t ∷ terms) (r ∷ ranks) zero rank term x le each has = has
inserted_in pairs (t ∷ terms) (r ∷ ranks) (suc place) rank term x le each has =
    elim has [
      | inl own ↦ inr (inserted_in pairs terms ranks place rank term x (omega arith) (omega arith) (inl own))
      | inr old ↦ elim old [ inl first ↦ inl first | inr rest ↦ inr (inserted_in pairs terms ranks place rank term x (omega arith) (omega arith) (inr rest)) ]
    ]

-- with one less
pub in_removed : {X : Type 0} (pairs : Selector → ℕ → List X) (terms : List Selector) (ranks : List ℕ) (at : ℕ) (x : X) → length ranks ≡ length terms → IsPairOf pairs (remove terms at) (remove ranks at) x → IsPairOf pairs terms ranks x
in_removed pairs [] ranks zero x each has = has
in_removed pairs [] ranks (suc at) x each has = has
in_removed pairs (t ∷ terms) [] at x each has = absurd (omega arith)
in_removed pairs (t ∷ terms) (r ∷ ranks) zero x each has = inr has
in_removed pairs (t ∷ terms) (r ∷ ranks) (suc at) x each has =
    elim has [ inl first ↦ inl first | inr later ↦ inr (in_removed pairs terms ranks at x (omega arith) later) ]

pub removed_in : {X : Type 0} (pairs : Selector → ℕ → List X) (terms : List Selector) (ranks : List ℕ) (at : ℕ) (x : X) → length ranks ≡ length terms → IsPairOf pairs terms ranks x → IsOneOf (pairs (get_or terms at All) (get_or ranks at 0)) x ⊎ IsPairOf pairs (remove terms at) (remove ranks at) x
removed_in pairs [] ranks at x each has = absurd has
removed_in pairs (t ∷ terms) [] at x each has = absurd has
removed_in pairs (t ∷ terms) (r ∷ ranks) zero x each has = has
removed_in pairs (t ∷ terms) (r ∷ ranks) (suc at) x each has =
    elim has [
      | inl first ↦ inr (inl first)
      | inr later ↦ elim (removed_in pairs terms ranks at x (omega arith) later) [ inl own ↦ inl own | inr rest ↦ inr (inr rest) ]
    ]

-- the place of a pair
pub place_of : {X : Type 0} (pairs : Selector → ℕ → List X) (terms : List Selector) (ranks : List ℕ) (x : X) → IsPairOf pairs terms ranks x → (k : ℕ) × (k < length terms) × (k < length ranks) × IsOneOf (pairs (get_or terms k All) (get_or ranks k 0)) x
place_of pairs [] ranks x has = absurd has
place_of pairs (t ∷ terms) [] x has = absurd has
place_of pairs (t ∷ terms) (r ∷ ranks) x has =
    elim has [
      | inl first ↦ (0, omega arith, omega arith, first)
      | inr later ↦
          let found = place_of pairs terms ranks x later in
          let in_terms : found.0 < length terms = found.1 in
          let in_ranks : found.0 < length ranks = found.2 in (suc found.0, omega arith, omega arith, found.3)
    ]

pub pair_at : {X : Type 0} (pairs : Selector → ℕ → List X) (terms : List Selector) (ranks : List ℕ) (x : X) (k : ℕ) → k < length terms → k < length ranks → IsOneOf (pairs (get_or terms k All) (get_or ranks k 0)) x → IsPairOf pairs terms ranks x
pair_at pairs [] ranks x k in_terms in_ranks one = absurd (omega arith)
pair_at pairs (t ∷ terms) [] x k in_terms in_ranks one = absurd (omega arith)
pair_at pairs (t ∷ terms) (r ∷ ranks) x zero in_terms in_ranks one = inl one
pair_at pairs (t ∷ terms) (r ∷ ranks) x (suc k) in_terms in_ranks one = inr (pair_at pairs terms ranks x k (omega arith) (omega arith) one)

-- what is made of one of a list
pub one_of_map : {X Y : Type 0} (f : Y → X) (P : X → Type 0) → ((y : Y) → P (f y)) → (ys : List Y) (x : X) → IsOneOf (map f ys) x → P x
one_of_map f P each [] x has = absurd has
one_of_map {X} f P each (y ∷ ys) x has = elim has [ inl is ↦ subst (λ (z : X). P z) (sym is) (each y) | inr later ↦ one_of_map f P each ys x later ]

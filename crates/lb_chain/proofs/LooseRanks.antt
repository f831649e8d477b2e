-- Loose ranks filed and taken out.
use Rattle.std.proofs.Common.{◌≡◌, ◌⊎◌, true, false, nat_lt, ℕ, ◌+◌, ◌-◌, ◌<◌, ◌≤◌, List, [], ◌∷◌, length, get_or, slice_index, inl, inr, sym, ap, ◌∙◌, arith}
use Rattle.std.specs.List.{insert, remove}
use Rattle.std.specs.List.Sorted.{IsPartitionPoint}
use Rattle.std.proofs.lemmas.Bool.Decides.{nat_tests}
use Rattle.std.proofs.lemmas.Bool.{cases_lt}
use Rattle.std.proofs.lemmas.List.{get_or_default}
use Rattle.std.proofs.lemmas.List.Edits.{length-insert, length-remove, get_or-insert_above, get_or-insert_at, get_or-insert_below, get_or-remove_above, get_or-remove_below}
use Rattle.lb_chain.specs.FirstAsked.{AreRising}
use Rattle.lb_chain.specs.Filing.{AreWith, AreWithout, IsFree}

-- the ranks before a place are less, and those from it on are not
pub record IsPlaceOf (ranks : List ℕ) (rank at : ℕ) : Type 0 where
  pub within : at ≤ length ranks
  pub below : (k : ℕ) → k < at → slice_index ranks k < rank
  pub above : (k : ℕ) → at ≤ k → k < length ranks → rank ≤ slice_index ranks k

below_is : (a b : ℕ) → nat_lt a b ≡ true → a < b
below_is a b is = grind (arith, nat_tests)

not_below : (a b : ℕ) → nat_lt a b ≡ false → b ≤ a
not_below a b is = grind (arith, nat_tests)

pub place_where_parted : (ranks : List ℕ) (rank at : ℕ) → at ≤ length ranks → IsPartitionPoint (λ r. nat_lt r rank ≡ true) (λ r. nat_lt r rank ≡ false) ranks at → IsPlaceOf ranks rank at
place_where_parted ranks rank at le point = record {
  within = le;
  below = λ k lt. below_is (get_or ranks k 0) rank (point.0 k 0 (omega arith) lt);
  above = λ k low lt. not_below (get_or ranks k 0) rank (point.1 k 0 low lt);
}

same_or_more : (i j : ℕ) → i ≤ j → (i ≡ j) ⊎ (i < j)
same_or_more i j le = grind arith

-- a rank that is not at its place is free there
pub free_where_absent : (ranks : List ℕ) (rank at : ℕ) → AreRising ranks → IsPlaceOf ranks rank at → (at < length ranks → get_or ranks at 0 ≡ rank → ⊥) → IsFree ranks at rank
free_where_absent ranks rank at rising place absent = record {
  above = place.below;
  below = λ k low lt.
      let here : at < length ranks = omega arith in
      let first : rank ≤ get_or ranks at 0 = place.above at (omega arith) here in
      let less : rank < get_or ranks at 0 = elim (same_or_more rank (get_or ranks at 0) first) [ inl same ↦ absurd (absent here (sym same)) | inr under ↦ under ] in
      elim (same_or_more at k low) [ inl same ↦ omega (arith, ap (λ (i : ℕ). get_or ranks i 0) same) | inr behind ↦ omega (arith, rising at k behind lt) ];
}

pub with_inserted : (ranks : List ℕ) (rank at : ℕ) → at ≤ length ranks → AreWith ranks (rank ∷ []) (insert ranks at rank)
with_inserted ranks rank at le p = (
  λ (k, lt, is).
      (let size : length (insert ranks at rank) ≡ length ranks + 1 = length-insert ranks at rank le in
      elim (cases_lt k at) [
        | inl low ↦ inr (k, omega arith, sym (get_or-insert_below ranks at rank p k low le) ∙ is)
        | inr high ↦ elim (same_or_more at k high) [
          | inl same ↦ inl (inl (sym is ∙ ap (λ (i : ℕ). get_or (insert ranks at rank) i p) (sym same) ∙ get_or-insert_at ranks at rank p le))
          | inr behind ↦
              let back : (k - 1) + 1 ≡ k = omega arith in
              inr (k - 1, omega arith, sym (get_or-insert_above ranks at rank p (k - 1) (omega arith) le) ∙ ap (λ (i : ℕ). get_or (insert ranks at rank) i p) back ∙ is)
        ]
      ]),
  λ either.
      let size : length (insert ranks at rank) ≡ length ranks + 1 = length-insert ranks at rank le in
      elim either [
        | inl own ↦ elim own [ inl is ↦ (at, omega arith, get_or-insert_at ranks at rank p le ∙ sym is) | inr none ↦ absurd none ]
        | inr was ↦
            let lt : was.0 < length ranks = was.1 in
            elim (cases_lt was.0 at) [
              | inl low ↦ (was.0, omega arith, get_or-insert_below ranks at rank p was.0 low le ∙ was.2)
              | inr high ↦ (was.0 + 1, omega arith, get_or-insert_above ranks at rank p was.0 high le ∙ was.2)
            ]
      ],
)

pub with_there : (ranks : List ℕ) (rank at : ℕ) → at < length ranks → get_or ranks at 0 ≡ rank → AreWith ranks (rank ∷ []) ranks
with_there ranks rank at lt is p = (
  λ has. inr has,
  λ either. elim either [
    | inl own ↦ elim own [ inl same ↦ (at, lt, get_or_default ranks at p 0 lt ∙ is ∙ sym same) | inr none ↦ absurd none ]
    | inr was ↦ was
  ],
)

pub without_removed : (ranks : List ℕ) (rank at : ℕ) → AreRising ranks → at < length ranks → get_or ranks at 0 ≡ rank → AreWithout ranks (rank ∷ []) (remove ranks at)
without_removed ranks rank at rising within here p = (
  λ (k, lt, is).
      (let size : length (remove ranks at) + 1 ≡ length ranks = length-remove ranks at within in
      elim (cases_lt k at) [
        | inl low ↦ (
            let there : get_or ranks k p ≡ p = sym (get_or-remove_below ranks at p k low within) ∙ is in
            (λ own. elim own [ inl same ↦ absurd (omega (arith, same, here, there, get_or_default ranks k p 0 (omega arith), rising k at low within)) | inr none ↦ absurd none ], (k, omega arith, there)))
        | inr high ↦ (
            let there : get_or ranks (k + 1) p ≡ p = sym (get_or-remove_above ranks at p k high within) ∙ is in
            (λ own. elim own [ inl same ↦ absurd (omega (arith, same, here, there, get_or_default ranks (k + 1) p 0 (omega arith), rising at (k + 1) (omega arith) (omega arith))) | inr none ↦ absurd none ], (k + 1, omega arith, there)))
      ]),
  λ both.
      let size : length (remove ranks at) + 1 ≡ length ranks = length-remove ranks at within in
      let was = both.1 in
      let lt : was.0 < length ranks = was.1 in
      elim (cases_lt was.0 at) [
        | inl low ↦ (was.0, omega arith, get_or-remove_below ranks at p was.0 low within ∙ was.2)
        | inr high ↦ elim (same_or_more at was.0 high) [
          | inl same ↦ absurd (both.0 (inl (sym was.2 ∙ get_or_default ranks was.0 p 0 lt ∙ ap (λ (i : ℕ). get_or ranks i 0) (sym same) ∙ here)))
          | inr behind ↦
              let back : (was.0 - 1) + 1 ≡ was.0 = omega arith in
              (was.0 - 1, omega arith, get_or-remove_above ranks at p (was.0 - 1) (omega arith) within ∙ ap (λ (i : ℕ). get_or ranks i p) back ∙ was.2)
        ]
      ],
)

pub without_absent : (ranks : List ℕ) (rank at : ℕ) → AreRising ranks → IsPlaceOf ranks rank at → (at < length ranks → get_or ranks at 0 ≡ rank → ⊥) → AreWithout ranks (rank ∷ []) ranks
without_absent ranks rank at rising place absent p = (
  λ has. (
    λ own. elim own [
      | inl same ↦
          let free = free_where_absent ranks rank at rising place absent in
          let lt : has.0 < length ranks = has.1 in
          let is : get_or ranks has.0 0 ≡ p = get_or_default ranks has.0 0 p lt ∙ has.2 in
          elim (cases_lt has.0 at) [ inl low ↦ absurd (omega (arith, same, is, free.above has.0 low)) | inr high ↦ absurd (omega (arith, same, is, free.below has.0 high lt)) ]
      | inr none ↦ absurd none
    ],
    has,
  ),
  λ both. both.1,
)

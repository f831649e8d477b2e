-- Ranks stay in order.
use Rattle.std.proofs.Common.{◌≡◌, ◌⊎◌, true, false, nat_lt, ℕ, zero, suc, ◌+◌, ◌<◌, ◌≤◌, ◌*◌, List, [], ◌∷◌, length, get_or, slice_index, inl, inr, refl, sym, ap, ◌∙◌, arith}
use Rattle.std.specs.List.{insert, remove}
use Rattle.std.specs.List.Sorted.{IsPartitionedBy, IsPartitionPoint}
use Rattle.std.proofs.lemmas.Bool.Decides.{nat_tests}
use Rattle.std.proofs.lemmas.Bool.{cases_lt}
use Rattle.std.proofs.lemmas.List.{get_or_default}
use Rattle.std.proofs.lemmas.List.Edits.{length-insert, length-remove, get_or-insert_at, get_or-insert_below, get_or-remove_above, get_or-remove_below}
use Rattle.lb_chain.specs.FirstAsked.{AreRising}
use Rattle.lb_chain.specs.Filing.{AreEven, IsFree}

pub rising_removed : (ranks : List ℕ) (at : ℕ) → at < length ranks → AreRising ranks → AreRising (remove ranks at)
rising_removed ranks at within rising i j lt in_list =
    let size : length (remove ranks at) + 1 ≡ length ranks = length-remove ranks at within in
    elim (cases_lt j at) [
      | inl low ↦ omega (arith, get_or-remove_below ranks at 0 i (omega arith) within, get_or-remove_below ranks at 0 j low within, rising i j lt (omega arith))
      | inr high ↦ elim (cases_lt i at) [
        | inl under ↦ omega (arith, get_or-remove_below ranks at 0 i under within, get_or-remove_above ranks at 0 j high within, rising i (j + 1) (omega arith) (omega arith))
        | inr over ↦ omega (arith, get_or-remove_above ranks at 0 i over within, get_or-remove_above ranks at 0 j high within, rising (i + 1) (j + 1) (omega arith) (omega arith))
      ]
    ]

behind : (xs : List ℕ) (place y k : ℕ) → place ≤ k → place ≤ length xs → get_or (insert xs place y) (suc k) 0 ≡ get_or xs k 0
behind [] zero y k le in_list = refl
behind [] (suc place) y k le in_list = absurd (omega arith)
behind (x ∷ xs) zero y k le in_list = refl
behind (x ∷ xs) (suc place) y zero le in_list = absurd (omega arith)
behind (x ∷ xs) (suc place) y (suc k) le in_list = behind xs place y k (omega arith) (omega arith)

same_or_more : (i j : ℕ) → j ≤ i → (j ≡ i) ⊎ (j < i)
same_or_more i j le = grind arith

behind_both : (ranks : List ℕ) (place rank i j : ℕ) → place ≤ length ranks → AreRising ranks → place < i → i < suc j → suc j < suc (length ranks) → get_or (insert ranks place rank) (suc j) 0 ≡ get_or ranks j 0 → get_or (insert ranks place rank) i 0 < get_or (insert ranks place rank) (suc j) 0
behind_both ranks place rank zero j le rising over lt in_list top = absurd (omega arith)
behind_both ranks place rank (suc i) j le rising over lt in_list top = omega (arith, top, behind ranks place rank i (omega arith) le, rising i j (omega arith) (omega arith))

-- with one that was free
pairs_rise : (ranks : List ℕ) (place rank i j : ℕ) → place ≤ length ranks → IsFree ranks place rank → AreRising ranks → i < j → j < suc (length ranks) → get_or (insert ranks place rank) i 0 < get_or (insert ranks place rank) j 0
pairs_rise ranks place rank i zero le free rising lt in_list = absurd (omega arith)
pairs_rise ranks place rank i (suc j) le free rising lt in_list =
    elim (cases_lt (suc j) place) [
      | inl low ↦ omega (arith, get_or-insert_below ranks place rank 0 i (omega arith) le, get_or-insert_below ranks place rank 0 (suc j) low le, rising i (suc j) lt (omega arith))
      | inr high ↦ elim (same_or_more (suc j) place high) [
        | inl here ↦ omega (arith, get_or-insert_below ranks place rank 0 i (omega arith) le, get_or-insert_at ranks place rank 0 le, ap (λ (k : ℕ). get_or (insert ranks place rank) k 0) here, free.above i (omega arith))
        | inr past ↦
            let top : get_or (insert ranks place rank) (suc j) 0 ≡ get_or ranks j 0 = behind ranks place rank j (omega arith) le in
            elim (cases_lt i place) [
              | inl before ↦ omega (arith, get_or-insert_below ranks place rank 0 i before le, top, rising i j (omega arith) (omega arith))
              | inr after ↦ elim (same_or_more i place after) [
                | inl own ↦ omega (arith, top, get_or-insert_at ranks place rank 0 le, ap (λ (k : ℕ). get_or (insert ranks place rank) k 0) own, free.below j (omega arith) (omega arith))
                | inr over ↦ behind_both ranks place rank i j le rising over lt in_list top
              ]
            ]
      ]
    ]

pub rising_inserted : (ranks : List ℕ) (place rank : ℕ) → place ≤ length ranks → IsFree ranks place rank → AreRising ranks → AreRising (insert ranks place rank)
rising_inserted ranks place rank le free rising i j lt in_list = pairs_rise ranks place rank i j le free rising lt (omega (arith, length-insert ranks place rank le))

-- a free rank is none of them
pub none_free : (ranks : List ℕ) (place rank k : ℕ) → IsFree ranks place rank → k < length ranks → get_or ranks k 0 ≡ rank → ⊥
none_free ranks place rank k free lt is =
    elim (cases_lt k place) [
      | inl low ↦ let less : get_or ranks k 0 < rank = free.above k low in absurd (omega arith)
      | inr high ↦ let less : rank < get_or ranks k 0 = free.below k high lt in absurd (omega arith)
    ]

-- nor is one that is taken out
pub none_left : (ranks : List ℕ) (at k : ℕ) → at < length ranks → AreRising ranks → k < length (remove ranks at) → get_or (remove ranks at) k 0 ≡ get_or ranks at 0 → ⊥
none_left ranks at k within rising lt is =
    let size : length (remove ranks at) + 1 ≡ length ranks = length-remove ranks at within in
    elim (cases_lt k at) [
      | inl low ↦ absurd (omega (arith, get_or-remove_below ranks at 0 k low within, rising k at low within))
      | inr high ↦ absurd (omega (arith, get_or-remove_above ranks at 0 k high within, rising at (k + 1) (omega arith) (omega arith)))
    ]

-- ranks at even distances
pub free_behind : (ranks : List ℕ) (n : ℕ) → AreEven ranks → n ≡ length ranks → IsFree ranks n ((n + 1) * 1125899906842624)
free_behind ranks n even is = record { above = λ k lt. omega (arith, even k (omega arith)); below = λ k le lt. absurd (omega arith) }

pub free_between : (ranks : List ℕ) (place : ℕ) → AreEven ranks → place ≤ length ranks → IsFree ranks place (place * 1125899906842624 + 562949953421312)
free_between ranks place even le = record { above = λ k lt. omega (arith, even k (omega arith)); below = λ k low lt. omega (arith, even k lt) }

pub even_more : (ranks : List ℕ) (n : ℕ) → AreEven ranks → n ≡ length ranks → AreEven (insert ranks n ((n + 1) * 1125899906842624))
even_more ranks n even is k lt =
    let size : length (insert ranks n ((n + 1) * 1125899906842624)) ≡ length ranks + 1 = length-insert ranks n ((n + 1) * 1125899906842624) (omega arith) in
    elim (cases_lt k n) [
      | inl low ↦ get_or-insert_below ranks n ((n + 1) * 1125899906842624) 0 k low (omega arith) ∙ even k (omega arith)
      | inr high ↦
          let here : k ≡ n = omega arith in
          ap (λ (i : ℕ). get_or (insert ranks n ((n + 1) * 1125899906842624)) i 0) here ∙ get_or-insert_at ranks n ((n + 1) * 1125899906842624) 0 (omega arith) ∙ ap (λ (i : ℕ). (i + 1) * 1125899906842624) (sym here)
    ]

-- the place that a search finds
below_is : (a b : ℕ) → nat_lt a b ≡ true → a < b
below_is a b is = grind (arith, nat_tests)

not_below : (a b : ℕ) → nat_lt a b ≡ false → b ≤ a
not_below a b is = grind (arith, nat_tests)

is_below : (a b : ℕ) → a < b → nat_lt a b ≡ true
is_below a b lt = grind (arith, nat_tests)

pub ranks_parted : (rank : ℕ) (ranks : List ℕ) → AreRising ranks → IsPartitionedBy (λ r. nat_lt r rank) ranks
ranks_parted rank ranks rising i j d le lt is =
    elim (same_or_more j i le) [
      | inl same ↦ ap (λ (k : ℕ). nat_lt (get_or ranks k d) rank) same ∙ is
      | inr less ↦
          let up : get_or ranks i 0 < get_or ranks j 0 = rising i j less lt in
          let under : get_or ranks j d < rank = below_is (get_or ranks j d) rank is in
          is_below (get_or ranks i d) rank (omega (arith, get_or_default ranks i d 0 (omega arith), get_or_default ranks j d 0 lt))
    ]

pub found_at : (ranks : List ℕ) (rank place k : ℕ) → IsPartitionPoint (λ r. nat_lt r rank ≡ true) (λ r. nat_lt r rank ≡ false) ranks place → AreRising ranks → k < length ranks → slice_index ranks k ≡ rank → place ≡ k
found_at ranks rank place k point rising lt is =
    elim (cases_lt k place) [
      | inl low ↦ let less : get_or ranks k 0 < rank = below_is (get_or ranks k 0) rank (point.0 k 0 (omega arith) low) in absurd (omega (arith, is))
      | inr high ↦ elim (same_or_more k place high) [
        | inl same ↦ same
        | inr before ↦
            let more : rank ≤ get_or ranks place 0 = not_below (get_or ranks place 0) rank (point.1 place 0 (omega arith) (omega arith)) in
            let less : get_or ranks place 0 < get_or ranks k 0 = rising place k before lt in
            absurd (omega (arith, is))
      ]
    ]

-- The passes of a selector: no more than it has limiters, and each of a limiter that does not match.
use Rattle.std.proofs.Common.{◌≡◌, Bool, true, false, ℕ, ◌+◌, ◌≤◌, ◌==◌, ◌||◌, List, [], ◌∷◌, ◌++◌, length, map, inl, inr, refl, sym, ap, ◌∙◌, arith, length-append}
use Rattle.std.specs.List.{list_any}
use Rattle.lb_wire.specs.declared.addr.Addr.{Addr}
use Rattle.lb_limits.specs.Window.{Limits, matches}
use Rattle.std.proofs.lemmas.Bool.{cases_Bool, eqb-true}
use Rattle.std.proofs.lemmas.List.Folds.{list_any-append}
use Rattle.lb_terms.specs.Selector.{Selector, All, Suffix, Masks, Qtype, And, Or, Not, MaxQps, Selectors, end, more}
use Rattle.lb_terms.specs.Truth.{Asked, matched_at, limiters_of, limiters_in, truth_at, passes_at, passes_all, passes_any}

-- of each limiter whether it matches
abbrev pub matched_of : Addr → ℕ → List Limits → List Bool
matched_of addr now limits = map (λ l. matches l addr now) limits

-- no more passes than limiters
mutual
  pub few_passes : (term : Selector) (asked : Asked) (at : ℕ) → length (passes_at term asked at) ≤ limiters_of term
  few_passes All asked at = omega arith
  few_passes (Suffix names) asked at = omega arith
  few_passes (Masks group) asked at = omega arith
  few_passes (Qtype qtype) asked at = omega arith
  few_passes (And members) asked at = few_all members asked at
  few_passes (Or members) asked at = few_any members asked at
  few_passes (Not member) asked at = few_passes member asked at
  few_passes (MaxQps qps v4 v6) asked at = elim (cases_Bool (matched_at asked at)) [ inl is ↦ rw is (omega arith) | inr is ↦ rw is (omega arith) ]

  pub few_all : (members : Selectors) (asked : Asked) (at : ℕ) → length (passes_all members asked at) ≤ limiters_in members
  few_all end asked at = omega arith
  few_all (more member members) asked at =
      let here : length (passes_at member asked at) ≤ limiters_of member = few_passes member asked at in
      let rest : length (passes_all members asked (at + limiters_of member)) ≤ limiters_in members = few_all members asked (at + limiters_of member) in
      elim (cases_Bool (truth_at member asked at)) [
        | inl is ↦ rw is (omega (arith, length-append (passes_at member asked at) (passes_all members asked (at + limiters_of member))))
        | inr is ↦ rw is (omega arith)
      ]

  pub few_any : (members : Selectors) (asked : Asked) (at : ℕ) → length (passes_any members asked at) ≤ limiters_in members
  few_any end asked at = omega arith
  few_any (more member members) asked at =
      let here : length (passes_at member asked at) ≤ limiters_of member = few_passes member asked at in
      let rest : length (passes_any members asked (at + limiters_of member)) ≤ limiters_in members = few_any members asked (at + limiters_of member) in
      elim (cases_Bool (truth_at member asked at)) [
        | inl is ↦ rw is (omega arith)
        | inr is ↦ rw is (omega (arith, length-append (passes_at member asked at) (passes_any members asked (at + limiters_of member))))
      ]

-- whether a number is one of the list
abbrev pub listed : ℕ → List ℕ → Bool
listed number numbers = list_any (λ other. other == number) numbers

-- each of the numbers is of a limiter that does not match
abbrev pub Unmatched : Asked → List ℕ → Type 0
Unmatched asked numbers = (number : ℕ) → listed number numbers ≡ true → matched_at asked number ≡ false

unmatched_none : (asked : Asked) → Unmatched asked []
unmatched_none asked number is = absurd (cc)

unmatched_one : (asked : Asked) (at : ℕ) → matched_at asked at ≡ false → Unmatched asked (at ∷ [])
unmatched_one asked at fails number is = elim (cases_Bool (at == number)) [
  | inl same ↦ ap (matched_at asked) (sym (eqb-true at number same)) ∙ fails
  | inr other ↦ absurd (let none : listed number (at ∷ []) ≡ false = rw other refl in cc)
]

unmatched_both : (asked : Asked) (xs ys : List ℕ) → Unmatched asked xs → Unmatched asked ys → Unmatched asked (xs ++ ys)
unmatched_both asked xs ys front back number is = elim (cases_Bool (listed number xs)) [
  | inl there ↦ front number there
  | inr none ↦ back number (let parts : listed number (xs ++ ys) ≡ (listed number xs || listed number ys) = list_any-append (λ other. other == number) xs ys in let behind : (listed number xs || listed number ys) ≡ listed number ys = rw none refl in sym behind ∙ sym parts ∙ is)
]

mutual
  pub unmatched : (term : Selector) (asked : Asked) (at : ℕ) → Unmatched asked (passes_at term asked at)
  unmatched All asked at = unmatched_none asked
  unmatched (Suffix names) asked at = unmatched_none asked
  unmatched (Masks group) asked at = unmatched_none asked
  unmatched (Qtype qtype) asked at = unmatched_none asked
  unmatched (And members) asked at = unmatched_all members asked at
  unmatched (Or members) asked at = unmatched_any members asked at
  unmatched (Not member) asked at = unmatched member asked at
  unmatched (MaxQps qps v4 v6) asked at = elim (cases_Bool (matched_at asked at)) [
    | inl is ↦ rw is (unmatched_none asked)
    | inr is ↦ rw is (unmatched_one asked at is)
  ]

  pub unmatched_all : (members : Selectors) (asked : Asked) (at : ℕ) → Unmatched asked (passes_all members asked at)
  unmatched_all end asked at = unmatched_none asked
  unmatched_all (more member members) asked at =
      let here : Unmatched asked (passes_at member asked at) = unmatched member asked at in
      let rest : Unmatched asked (passes_all members asked (at + limiters_of member)) = unmatched_all members asked (at + limiters_of member) in
      elim (cases_Bool (truth_at member asked at)) [
        | inl is ↦ rw is (unmatched_both asked (passes_at member asked at) (passes_all members asked (at + limiters_of member)) here rest)
        | inr is ↦ rw is here
      ]

  pub unmatched_any : (members : Selectors) (asked : Asked) (at : ℕ) → Unmatched asked (passes_any members asked at)
  unmatched_any end asked at = unmatched_none asked
  unmatched_any (more member members) asked at =
      let here : Unmatched asked (passes_at member asked at) = unmatched member asked at in
      let rest : Unmatched asked (passes_any members asked (at + limiters_of member)) = unmatched_any members asked (at + limiters_of member) in
      elim (cases_Bool (truth_at member asked at)) [
        | inl is ↦ rw is here
        | inr is ↦ rw is (unmatched_both asked (passes_at member asked at) (passes_any members asked (at + limiters_of member)) here rest)
      ]

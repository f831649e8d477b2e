-- A kind that is noted among others: their numbers.
use Rattle.std.proofs.Common.{◌≡◌, ◌⊎◌, ◌↔◌, false, Bool, ◌==◌, nat_eq, nat_lt, ℕ, ◌+◌, ◌≤◌, List, [], ◌∷◌, ◌++◌, length, get_or, set, Contains, None, Some, inl, inr, refl, sym, ap, subst, ◌∙◌, arith}
use Rattle.std.specs.List.{list_any, position, position_or_len}
use Rattle.std.proofs.Math.Seq.{map-set_same}
use Rattle.std.proofs.lemmas.Bool.{cases_Bool, eqb-true, ltb-false}
use Rattle.std.proofs.lemmas.List.{map-append}
use Rattle.std.proofs.lemmas.List.Quantifiers.{position-Some}
use Rattle.lb_masks.specs.Kinds.{numbers}
use Rattle.lb_masks.specs.declared.kinds.MaskKind.{MaskKind}
use Rattle.lb_masks.proofs.Pairs.{cons_cases, cons_here, cons_there, none_there}

-- whether a kind has a number
abbrev pub is_number : ℕ → MaskKind → Bool
is_number number kind = kind.number == number

-- what a search for a number finds has it
pub found_number : (kinds : List MaskKind) (number place : ℕ) (d : MaskKind) → position (is_number number) kinds ≡ Some place → (get_or kinds place d).number ≡ number
found_number kinds number place d is = eqb-true (get_or kinds place d).number number (position-Some (is_number number) kinds place d is).1

beyond : (number : ℕ) (kinds : List MaskKind) → length kinds ≤ position_or_len (is_number number) kinds → list_any (λ z. nat_eq z number) (numbers kinds) ≡ false
beyond number [] far = refl
beyond number (k ∷ kinds) far =
    elim (cases_Bool (k.number == number)) [
      | inl passes ↦ absurd (let first : position_or_len (is_number number) (k ∷ kinds) ≡ 0 = rw passes refl in omega (arith, far, first))
      | inr fails ↦
          let rest : position_or_len (is_number number) (k ∷ kinds) ≡ 1 + position_or_len (is_number number) kinds = rw fails refl in
          rw fails (beyond number kinds (omega (arith, far, rest)))
    ]

-- and where it finds none, none has it
pub no_number : (kinds : List MaskKind) (number : ℕ) → position (is_number number) kinds ≡ None → list_any (λ z. nat_eq z number) (numbers kinds) ≡ false
no_number kinds number none =
    elim (cases_Bool (nat_lt (position_or_len (is_number number) kinds) (length kinds))) [
      | inl there ↦ absurd (let some : position (is_number number) kinds ≡ Some (position_or_len (is_number number) kinds) = rw there refl in cc)
      | inr far ↦ beyond number kinds (omega (arith, ltb-false (position_or_len (is_number number) kinds) (length kinds) far))
    ]

pub number_has : (kinds : List MaskKind) (k : MaskKind) → Contains kinds k → Contains (numbers kinds) k.number
number_has [] k has = absurd (none_there k has)
number_has (j ∷ kinds) k has =
    elim (cons_cases j kinds k has) [
      | inl same ↦ subst (λ (x : MaskKind). Contains (numbers (j ∷ kinds)) x.number) same (cons_here j.number (numbers kinds))
      | inr there ↦ cons_there j.number (numbers kinds) k.number (number_has kinds k there)
    ]

-- a kind that is there stands for one of its number
pub numbers_set : (kinds : List MaskKind) (place : ℕ) (k d : MaskKind) → k.number ≡ (get_or kinds place d).number → numbers (set kinds place k) ≡ numbers kinds
numbers_set kinds place k d same = map-set_same (λ (x : MaskKind). x.number) kinds place k d same

-- so the numbers are those that were there
pub noted_same : (xs ys : List ℕ) (number : ℕ) → ys ≡ xs → Contains xs number → (k : ℕ) → Contains ys k ↔ ((k ≡ number) ⊎ Contains xs k)
noted_same xs ys number is has k = (
  λ there. inr (subst (λ (zs : List ℕ). Contains zs k) is there),
  λ e. elim e [
    | inl same ↦ subst (λ (zs : List ℕ). Contains zs k) (sym is) (subst (λ (n : ℕ). Contains xs n) (sym same) has)
    | inr there ↦ subst (λ (zs : List ℕ). Contains zs k) (sym is) there
  ],
)

push_cases : (xs : List ℕ) (y k : ℕ) → Contains (xs ++ y ∷ []) k → (k ≡ y) ⊎ Contains xs k
push_cases [] y k has = elim (cons_cases y [] k has) [ inl same ↦ inl (sym same) | inr there ↦ inr there ]
push_cases (x ∷ xs) y k has =
    elim (cons_cases x (xs ++ y ∷ []) k has) [
      | inl same ↦ inr (subst (λ (z : ℕ). Contains (x ∷ xs) z) same (cons_here x xs))
      | inr there ↦ elim (push_cases xs y k there) [ inl is ↦ inl is | inr rest ↦ inr (cons_there x xs k rest) ]
    ]

push_own : (xs : List ℕ) (y : ℕ) → Contains (xs ++ y ∷ []) y
push_own [] y = cons_here y []
push_own (x ∷ xs) y = cons_there x (xs ++ y ∷ []) y (push_own xs y)

push_others : (xs : List ℕ) (y k : ℕ) → Contains xs k → Contains (xs ++ y ∷ []) k
push_others [] y k has = absurd (none_there k has)
push_others (x ∷ xs) y k has =
    elim (cons_cases x xs k has) [
      | inl same ↦ subst (λ (z : ℕ). Contains (x ∷ (xs ++ y ∷ [])) z) same (cons_here x (xs ++ y ∷ []))
      | inr there ↦ cons_there x (xs ++ y ∷ []) k (push_others xs y k there)
    ]

-- or one more
pub noted_more : (xs ys : List ℕ) (number : ℕ) → ys ≡ xs ++ number ∷ [] → (k : ℕ) → Contains ys k ↔ ((k ≡ number) ⊎ Contains xs k)
noted_more xs ys number is k = (
  λ there. push_cases xs number k (subst (λ (zs : List ℕ). Contains zs k) is there),
  λ e. elim e [
    | inl same ↦ subst (λ (zs : List ℕ). Contains zs k) (sym is) (subst (λ (n : ℕ). Contains (xs ++ number ∷ []) n) (sym same) (push_own xs number))
    | inr there ↦ subst (λ (zs : List ℕ). Contains zs k) (sym is) (push_others xs number k there)
  ],
)

pub numbers_push : (kinds new : List MaskKind) (k : MaskKind) (number : ℕ) → new ≡ kinds ++ k ∷ [] → k.number ≡ number → numbers new ≡ numbers kinds ++ number ∷ []
numbers_push kinds new k number is same =
    ap numbers is ∙ map-append (λ (x : MaskKind). x.number) kinds (k ∷ []) ∙ ap (λ (n : ℕ). numbers kinds ++ n ∷ []) same

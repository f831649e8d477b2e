-- The kinds of mask that are in use.
use Rattle.std.proofs.Common.{◌≡◌, ◌⊎◌, ◌↔◌, true, false, Bool, not, cond, ◌||◌, IsTrue, ◌==◌, nat_eq, ℕ, List, [], ◌∷◌, ◌++◌, get_or, filter, Contains, inl, inr, refl, sym, ap, subst, ◌∙◌}
use Rattle.std.proofs.lemmas.Bool.{cases_Bool, cases_eq, eqb-false, ne_eqb}
use Rattle.std.proofs.lemmas.Cmp.{nat_eq_equiv}
use Rattle.std.proofs.lemmas.Map.Keys.{IsDistinct-cons, IsDistinct-head, IsDistinct-push, IsDistinct-tail}
use Rattle.std.specs.List.{AllByRecursion, IsDistinct, list_any}
use Rattle.lb_index_ranks.specs.declared.filed.Filed.{Filed}
use Rattle.lb_index_ranks.specs.Filed.{filed_at, HasBesides, HasBut}
use Rattle.lb_masks.proofs.Pairs.{cons_cases, cons_here, cons_there, none_there}
use Rattle.lb_masks.specs.Kinds.{AreInUse, HasKind}

once_none : IsDistinct nat_eq []
unfolding IsDistinct
once_none = tt

any_turned : (xs : List ℕ) (y : ℕ) → list_any (nat_eq y) xs ≡ list_any (λ z. nat_eq z y) xs
any_turned [] y = refl
any_turned (x ∷ xs) y = ap (λ (t : Bool). t || list_any (nat_eq y) xs) (nat_eq_equiv.symm y x) ∙ ap (λ (t : Bool). nat_eq x y || t) (any_turned xs y)

-- a kind that is not there is put after the others
pub once_more : (xs ys : List ℕ) (y : ℕ) → ys ≡ xs ++ y ∷ [] → list_any (λ z. nat_eq z y) xs ≡ false → IsDistinct nat_eq xs → IsDistinct nat_eq ys
once_more xs ys y is none once = subst (λ (zs : List ℕ). IsDistinct nat_eq zs) (sym is) (IsDistinct-push nat_eq_equiv xs y once (any_turned xs y ∙ none))

each_filter : (P : ℕ → Type 0) (p : ℕ → Bool) (xs : List ℕ) → AllByRecursion P xs → AllByRecursion P (filter p xs)
each_filter P p [] each = tt
each_filter P p (x ∷ xs) each = elim (cases_Bool (p x)) [ inl is ↦ rw is (each.0, each_filter P p xs each.1) | inr is ↦ rw is (each_filter P p xs each.1) ]

-- some are taken out
pub once_less : (p : ℕ → Bool) (xs : List ℕ) → IsDistinct nat_eq xs → IsDistinct nat_eq (filter p xs)
once_less p [] once = once_none
once_less p (x ∷ xs) once =
    let rest = once_less p xs (IsDistinct-tail nat_eq x xs once) in
    elim (cases_Bool (p x)) [
      | inl is ↦ rw is (IsDistinct-cons nat_eq x (filter p xs) (each_filter (λ y. nat_eq x y ≡ false) p xs (IsDistinct-head nat_eq x xs once)) rest)
      | inr is ↦ rw is rest
    ]

-- a pair tells its kind
kind_told : (k j : ℕ) (a b : List ℕ) (r s : ℕ) → filed_at (k ∷ a) r ≡ filed_at (j ∷ b) s → k ≡ j
kind_told k j a b r s same = ap (λ (f : Filed). get_or f.key 0 0) same

pub used_none : AreInUse [] []
used_none = record { filed = λ k. (λ has. absurd (none_there k has), λ has. absurd (none_there (filed_at (k ∷ has.0) has.1) has.2)); once = once_none }

-- a pair is filed, and its kind noted
pub used_besides : (kinds more : List ℕ) (old new : List Filed) (kind : ℕ) (octets : List ℕ) (rank : ℕ) → AreInUse kinds old → ((k : ℕ) → Contains more k ↔ ((k ≡ kind) ⊎ Contains kinds k)) → (IsDistinct nat_eq kinds → IsDistinct nat_eq more) → HasBesides old (filed_at (kind ∷ octets) rank) new → AreInUse more new
used_besides kinds more old new kind octets rank used noted once has_besides = record {
  filed = λ k. (
    λ has.
        elim ((noted k).0 has) [
          | inl same ↦ (octets, rank, subst (λ (j : ℕ). Contains new (filed_at (j ∷ octets) rank)) (sym same) ((has_besides (filed_at (kind ∷ octets) rank)).1 (inl refl)))
          | inr there ↦ let was = (used.filed k).0 there in (was.0, was.1, (has_besides (filed_at (k ∷ was.0) was.1)).1 (inr was.2))
        ],
    λ has.
        elim ((has_besides (filed_at (k ∷ has.0) has.1)).0 has.2) [
          | inl same ↦ (noted k).1 (inl (kind_told k kind has.0 octets has.1 rank same))
          | inr there ↦ (noted k).1 (inr ((used.filed k).1 (has.0, has.1, there)))
        ],
  );
  once = once used.once;
}

filter_to : (p : ℕ → Bool) (xs : List ℕ) (y : ℕ) → Contains (filter p xs) y → (p y ≡ true) × Contains xs y
filter_to p [] y has = absurd (none_there y has)
filter_to p (x ∷ xs) y has =
    elim (cases_Bool (p x)) [
      | inl is ↦
          let own : Contains (x ∷ filter p xs) y = subst (λ (t : Bool). Contains (cond t (x ∷ filter p xs) (filter p xs)) y) is has in
          elim (cons_cases x (filter p xs) y own) [
            | inl same ↦ (ap p (sym same) ∙ is, subst (λ (z : ℕ). Contains (x ∷ xs) z) same (cons_here x xs))
            | inr there ↦ (let rest = filter_to p xs y there in (rest.0, cons_there x xs y rest.1))
          ]
      | inr is ↦
          let own : Contains (filter p xs) y = subst (λ (t : Bool). Contains (cond t (x ∷ filter p xs) (filter p xs)) y) is has in
          let rest = filter_to p xs y own in
          (rest.0, cons_there x xs y rest.1)
    ]

filter_from : (p : ℕ → Bool) (xs : List ℕ) (y : ℕ) → p y ≡ true → Contains xs y → Contains (filter p xs) y
filter_from p [] y is has = absurd (none_there y has)
filter_from p (x ∷ xs) y is has =
    elim (cons_cases x xs y has) [
      | inl same ↦
          let here : p x ≡ true = ap p same ∙ is in
          rw here (subst (λ (z : ℕ). Contains (x ∷ filter p xs) z) same (cons_here x (filter p xs)))
      | inr there ↦
          let rest = filter_from p xs y is there in
          elim (cases_Bool (p x)) [ inl here ↦ rw here (cons_there x (filter p xs) y rest) | inr other ↦ rw other rest ]
    ]

other_is : (k kind : ℕ) → not (k == kind) ≡ true → k ≡ kind → ⊥
other_is k kind is same = elim (cases_Bool (k == kind)) [ inl equal ↦ (let no : not (k == kind) ≡ false = ap not equal in absurd (cc (is, no))) | inr other ↦ eqb-false k kind other same ]

pub is_other : (k kind : ℕ) → (k ≡ kind → ⊥) → not (k == kind) ≡ true
is_other k kind other = ap not (ne_eqb k kind other)

-- the kinds that are left where one is taken out
forgot : (kinds less : List ℕ) (kind : ℕ) → less ≡ filter (λ k. not (k == kind)) kinds → (k : ℕ) → Contains less k ↔ ((k ≡ kind → ⊥) × Contains kinds k)
forgot kinds less kind is k = (
  λ has. let there = filter_to (λ j. not (j == kind)) kinds k (subst (λ (ks : List ℕ). Contains ks k) is has) in (other_is k kind there.0, there.1),
  λ both. subst (λ (ks : List ℕ). Contains ks k) (sym is) (filter_from (λ j. not (j == kind)) kinds k (is_other k kind both.0) both.1),
)

-- and they are as if it were kept where it has pairs, where it has none
pub forgot_unused : (kinds less : List ℕ) (items : List Filed) (kind : ℕ) (there : Bool) → less ≡ filter (λ k. not (k == kind)) kinds → there ≡ false → (IsTrue there ↔ HasKind items kind) → (k : ℕ) → Contains less k ↔ (((k ≡ kind → ⊥) ⊎ HasKind items kind) × Contains kinds k)
forgot_unused kinds less items kind there is none told k =
    let same = forgot kinds less kind is k in (
      λ has. let both = same.0 has in (inl both.0, both.1),
      λ both. elim both.0 [
        | inl other ↦ same.1 (other, both.1)
        | inr still ↦ (let no : there ≡ true = told.1 still in absurd (cc (no, none)))
      ],
    )

-- a pair is taken out, and its kind forgotten where none is left of it
pub used_but : (kinds less : List ℕ) (old new : List Filed) (kind : ℕ) (octets : List ℕ) (rank : ℕ) → AreInUse kinds old → ((k : ℕ) → Contains less k ↔ (((k ≡ kind → ⊥) ⊎ HasKind new kind) × Contains kinds k)) → (IsDistinct nat_eq kinds → IsDistinct nat_eq less) → HasBut old (filed_at (kind ∷ octets) rank) new → AreInUse less new
used_but kinds less old new kind octets rank used kept once has_but = record {
  filed = λ k. (
    λ has.
        let both = (kept k).0 has in
        elim (cases_eq k kind) [
          | inl same ↦
              elim both.0 [
                | inl other ↦ absurd (other same)
                | inr still ↦ subst (λ (j : ℕ). HasKind new j) (sym same) still
              ]
          | inr other ↦
              let was = (used.filed k).0 both.1 in
              (was.0, was.1, (has_but (filed_at (k ∷ was.0) was.1)).1 (λ same. other (kind_told k kind was.0 octets was.1 rank same), was.2))
        ],
    λ has.
        let was : Contains kinds k = (used.filed k).1 (has.0, has.1, ((has_but (filed_at (k ∷ has.0) has.1)).0 has.2).1) in
        (kept k).1 (
          elim (cases_eq k kind) [
            | inl same ↦ inr (subst (λ (j : ℕ). HasKind new j) same has)
            | inr other ↦ inl other
          ],
          was,
        ),
  );
  once = once used.once;
}

-- a kind is noted for a pair that is refused, and forgotten where none is there of it
pub used_again : (kinds more less : List ℕ) (items : List Filed) (kind : ℕ) → AreInUse kinds items → ((k : ℕ) → Contains more k ↔ ((k ≡ kind) ⊎ Contains kinds k)) → ((k : ℕ) → Contains less k ↔ (((k ≡ kind → ⊥) ⊎ HasKind items kind) × Contains more k)) → (IsDistinct nat_eq kinds → IsDistinct nat_eq more) → (IsDistinct nat_eq more → IsDistinct nat_eq less) → AreInUse less items
used_again kinds more less items kind used noted kept once_more once_less = record {
  filed = λ k. (
    λ has.
        let both = (kept k).0 has in
        elim ((noted k).0 both.1) [
          | inl same ↦
              elim both.0 [
                | inl other ↦ absurd (other same)
                | inr still ↦ subst (λ (j : ℕ). HasKind items j) (sym same) still
              ]
          | inr there ↦ (used.filed k).0 there
        ],
    λ has.
        let there : Contains more k = (noted k).1 (inr ((used.filed k).1 has)) in
        (kept k).1 (
          elim (cases_eq k kind) [
            | inl same ↦ inr (subst (λ (j : ℕ). HasKind items j) same has)
            | inr other ↦ inl other
          ],
          there,
        ),
  );
  once = once_less (once_more used.once);
}

-- What is filed, one pair after the other.
use Rattle.std.proofs.Common.{◌≡◌, ◌⊎◌, ◌↔◌, ℕ, zero, suc, ◌+◌, ◌<◌, ◌≤◌, List, [], ◌∷◌, length, map, get_or, drop, Contains, inl, inr, refl, sym, ap, subst, ◌∙◌, arith}
use Rattle.std.proofs.lemmas.List.{drop_all, drop_more}
use Rattle.lb_chain.specs.FirstAsked.{IsOneOf}
use Rattle.lb_chain.specs.Filing.{AreTakenBack, AreWith, AreWithout}

pub with_none : {X : Type 0} (old : List X) → AreWith old [] old
with_none old p = (λ has. inr has, λ either. elim either [ inl none ↦ absurd none | inr has ↦ has ])

pub without_none : {X : Type 0} (old : List X) → AreWithout old [] old
without_none old p = (λ has. (λ none. none, has), λ both. both.1)

pub same_back : {X : Type 0} (old pairs new : List X) → new ≡ old → AreTakenBack old pairs new
same_back {X} old pairs new same fresh p = (λ has. subst (λ (ps : List X). Contains ps p) same has, λ has. subst (λ (ps : List X). Contains ps p) (sym same) has)

with_more : {X : Type 0} (x : X) (rest old mid new : List X) → ((p : X) → Contains mid p ↔ ((p ≡ x) ⊎ Contains old p)) → AreWith mid rest new → AreWith old (x ∷ rest) new
with_more x rest old mid new one more p = (
  λ has. elim ((more p).0 has) [ inl of_rest ↦ inl (inr of_rest) | inr was ↦ elim ((one p).0 was) [ inl is ↦ inl (inl is) | inr before ↦ inr before ] ],
  λ either. elim either [ inl of_all ↦ elim of_all [ inl is ↦ (more p).1 (inr ((one p).1 (inl is))) | inr of_rest ↦ (more p).1 (inl of_rest) ] | inr before ↦ (more p).1 (inr ((one p).1 (inr before))) ],
)

without_more : {X : Type 0} (x : X) (rest old mid new : List X) → ((p : X) → Contains mid p ↔ ((p ≡ x → ⊥) × Contains old p)) → AreWithout mid rest new → AreWithout old (x ∷ rest) new
without_more x rest old mid new one more p = (
  λ has. (λ either. elim either [ inl is ↦ ((one p).0 ((more p).0 has).1).0 is | inr of_rest ↦ ((more p).0 has).0 of_rest ], ((one p).0 ((more p).0 has).1).1),
  λ both. (more p).1 (λ of_rest. both.0 (inr of_rest), (one p).1 (λ is. both.0 (inl is), both.1)),
)

pub with_one : {X : Type 0} (x : X) (old new : List X) → ((p : X) → Contains new p ↔ ((p ≡ x) ⊎ Contains old p)) → AreWith old (x ∷ []) new
with_one x old new one = with_more x [] old new new one (with_none new)

pub without_one : {X : Type 0} (x : X) (old new : List X) → ((p : X) → Contains new p ↔ ((p ≡ x → ⊥) × Contains old p)) → AreWithout old (x ∷ []) new
without_one x old new one = without_more x [] old new new one (without_none new)

next_is : {Y : Type 0} (set : List Y) (i : ℕ) (y : Y) → i < length set → y ≡ get_or set i y → drop i set ≡ y ∷ drop (i + 1) set
next_is {Y} set i y lt is = drop_more set i y lt ∙ ap (λ (z : Y). z ∷ drop (i + 1) set) (sym is)

-- one turn of a loop that files, and its end
pub with_next : {X Y : Type 0} (f : Y → X) (set : List Y) (i : ℕ) (y : Y) (old mid : List X) (W : List X → Type 0) → i < length set → y ≡ get_or set i y → ((p : X) → Contains mid p ↔ ((p ≡ f y) ⊎ Contains old p)) → ((new : List X) → AreWith old (map f (drop i set)) new → W new) → (new : List X) → AreWith mid (map f (drop (i + 1) set)) new → W new
with_next {X} {Y} f set i y old mid W lt is one go new more =
    go new (subst (λ (ys : List Y). AreWith old (map f ys) new) (sym (next_is set i y lt is)) (with_more (f y) (map f (drop (i + 1) set)) old mid new one more))

pub without_next : {X Y : Type 0} (f : Y → X) (set : List Y) (i : ℕ) (y : Y) (old mid : List X) (W : List X → Type 0) → i < length set → y ≡ get_or set i y → ((p : X) → Contains mid p ↔ ((p ≡ f y → ⊥) × Contains old p)) → ((new : List X) → AreWithout old (map f (drop i set)) new → W new) → (new : List X) → AreWithout mid (map f (drop (i + 1) set)) new → W new
without_next {X} {Y} f set i y old mid W lt is one go new more =
    go new (subst (λ (ys : List Y). AreWithout old (map f ys) new) (sym (next_is set i y lt is)) (without_more (f y) (map f (drop (i + 1) set)) old mid new one more))

pub with_end : {X Y : Type 0} (f : Y → X) (set : List Y) (i : ℕ) (old : List X) (W : List X → Type 0) → length set ≤ i → ((new : List X) → AreWith old (map f (drop i set)) new → W new) → W old
with_end {X} {Y} f set i old W le go = go old (subst (λ (ys : List Y). AreWith old (map f ys) old) (sym (drop_all i set le)) (with_none old))

pub without_end : {X Y : Type 0} (f : Y → X) (set : List Y) (i : ℕ) (old : List X) (W : List X → Type 0) → length set ≤ i → ((new : List X) → AreWithout old (map f (drop i set)) new → W new) → W old
without_end {X} {Y} f set i old W le go = go old (subst (λ (ys : List Y). AreWithout old (map f ys) old) (sym (drop_all i set le)) (without_none old))

-- some of the pairs are filed besides
pub record AreMore {X : Type 0} (old pairs mid : List X) : Type 0 where
  pub kept : (p : X) → Contains old p → Contains mid p
  pub only : (p : X) → Contains mid p → IsOneOf pairs p ⊎ Contains old p

pub more_none : {X : Type 0} (old pairs : List X) → AreMore old pairs old
more_none old pairs = record { kept = λ p has. has; only = λ p has. inr has }

one_at : {X Y : Type 0} (f : Y → X) (set : List Y) (i : ℕ) (d : Y) → i < length set → IsOneOf (map f set) (f (get_or set i d))
one_at f [] i d lt = absurd (omega arith)
one_at f (y ∷ set) zero d lt = inl refl
one_at f (y ∷ set) (suc i) d lt = inr (one_at f set i d (omega arith))

pub more_next : {X Y : Type 0} (f : Y → X) (set : List Y) (i : ℕ) (y : Y) (old mid new : List X) → i < length set → y ≡ get_or set i y → ((p : X) → Contains new p ↔ ((p ≡ f y) ⊎ Contains mid p)) → AreMore old (map f set) mid → AreMore old (map f set) new
more_next {X} {Y} f set i y old mid new lt is one more =
    let own : IsOneOf (map f set) (f y) = subst (λ (z : Y). IsOneOf (map f set) (f z)) (sym is) (one_at f set i y lt) in
    record {
      kept = λ p has. (one p).1 (inr (more.kept p has));
      only = λ p has. elim ((one p).0 has) [ inl same ↦ inl (subst (λ (q : X). IsOneOf (map f set) q) (sym same) own) | inr was ↦ more.only p was ];
    }

pub taken_back : {X : Type 0} (old pairs mid mid2 new : List X) → AreMore old pairs mid → mid2 ≡ mid → AreWithout mid2 pairs new → AreTakenBack old pairs new
taken_back {X} old pairs mid mid2 new more same without fresh p = (
  λ has. elim (more.only p (subst (λ (ps : List X). Contains ps p) same ((without p).0 has).1)) [ inl one ↦ absurd (((without p).0 has).0 one) | inr was ↦ was ],
  λ was. (without p).1 (λ one. fresh p one was, subst (λ (ps : List X). Contains ps p) (sym same) (more.kept p was)),
)

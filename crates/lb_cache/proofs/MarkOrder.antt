-- The order of marks.
use Rattle.std.proofs.Common.{◌≡◌, ◌≢◌, ℕ, ◌<◌, ◌≤◌, ◌==◌, Bool, false, true, ltb, inl, inr, List, [], ◌∷◌, refl, sym, ap, arith, subst}
use Rattle.std.specs.List.{AllByRecursion, list_any}
use Rattle.std.specs.List.Sorted.{IsStrictlySortedBy}
use Rattle.std.specs.declared.cmp.Ordering.TheVariants.{Less}
use Rattle.std.specs.Ordering.{is_eq, is_gt}
use Rattle.std.proofs.lemmas.Bool.{cases_Bool, eq-eqb, eqb-true, ltb-true, ltb-false, le-ltb}
use Rattle.lb_cache.specs.Ends.{cmp_mark, is_mark}

pub mark_le : (a b v s : ℕ) → is_gt (cmp_mark (a, b) (v, s)) ≡ false → a ≤ v
mark_le a b v s not = elim (cases_Bool (ltb v a)) [
  | inl t ↦
      let lt : v < a = ltb-true v a t in
      let below : ltb a v ≡ false = le-ltb a v (omega (arith, lt)) in
      elim (cases_Bool (a == v)) [
        | inl u ↦ absurd (let same : a ≡ v = eqb-true a v u in omega (arith, same, lt))
        | inr u ↦
            let on : is_gt (cmp_mark (a, b) (v, s)) ≡ true = rw (below, u) refl in
            absurd (cc)
      ]
  | inr t ↦ ltb-false v a t
]

-- a mark is one by its number and its slot
pub mark_is : (a b v s : ℕ) → is_mark a b v s ≡ true → (a ≡ v) × (b ≡ s)
mark_is a b v s is = elim (cases_Bool (ltb a v)) [
  | inl t ↦ let off : is_mark a b v s ≡ false = rw t refl in absurd (cc)
  | inr t ↦ elim (cases_Bool (a == v)) [
    | inr u ↦ let off : is_mark a b v s ≡ false = rw (t, u) refl in absurd (cc)
    | inl u ↦ elim (cases_Bool (ltb b s)) [
      | inl w ↦ let off : is_mark a b v s ≡ false = rw (t, u, w) refl in absurd (cc)
      | inr w ↦ elim (cases_Bool (b == s)) [
        | inr x ↦ let off : is_mark a b v s ≡ false = rw (t, u, w, x) refl in absurd (cc)
        | inl x ↦ (eqb-true a v u, eqb-true b s x)
      ]
    ]
  ]
]

pub is_own : (a b : ℕ) → is_mark a b a b ≡ true
is_own a b =
    let la : ltb a a ≡ false = le-ltb a a (omega arith) in
    let lb : ltb b b ≡ false = le-ltb b b (omega arith) in
    let ea : (a == a) ≡ true = eq-eqb a a refl in
    let eb : (b == b) ≡ true = eq-eqb b b refl in
    rw (la, ea, lb, eb) refl

-- ---- the first two of a list of marks in order

-- whether a mark is one of these
abbrev pub is_among : ℕ → ℕ → List (ℕ × ℕ) → Bool
is_among v s ks = list_any (λ k. is_mark v s k.0 k.1) ks

among_rest : (v s : ℕ) (k : ℕ × ℕ) (ks : List (ℕ × ℕ)) → is_among v s (k ∷ ks) ≡ true → is_mark v s k.0 k.1 ≡ false → is_among v s ks ≡ true
among_rest v s k ks among off = rw off at among

-- one of those after a mark stands after it
behind_all : (k : ℕ × ℕ) (v s : ℕ) (ks : List (ℕ × ℕ)) → AllByRecursion (λ y. cmp_mark k y ≡ Less) ks → is_among v s ks ≡ true → cmp_mark k (v, s) ≡ Less
behind_all k v s [] all among = absurd (cc)
behind_all k v s (x ∷ xs) all among = elim (cases_Bool (is_mark v s x.0 x.1)) [
  | inl t ↦
      let is = mark_is v s x.0 x.1 t in
      subst (λ (b : ℕ). cmp_mark k (v, b) ≡ Less) (sym is.1) (subst (λ (a : ℕ). cmp_mark k (a, x.1) ≡ Less) (sym is.0) all.0)
  | inr t ↦ behind_all k v s xs all.1 (among_rest v s x xs among t)
]

less_le : (k : ℕ × ℕ) (v s : ℕ) → cmp_mark k (v, s) ≡ Less → k.0 ≤ v
less_le k v s less = mark_le k.0 k.1 v s (ap is_gt less)

pub least_first : (ks rest : List (ℕ × ℕ)) (k : ℕ × ℕ) (v s : ℕ) → ks ≡ k ∷ rest → IsStrictlySortedBy cmp_mark ks → is_among v s ks ≡ true → k.0 ≤ v
unfolding IsStrictlySortedBy
least_first ks rest k v s is sorted among =
    let order : IsStrictlySortedBy cmp_mark (k ∷ rest) = subst (λ (l : List (ℕ × ℕ)). IsStrictlySortedBy cmp_mark l) is sorted in
    let here : is_among v s (k ∷ rest) ≡ true = subst (λ (l : List (ℕ × ℕ)). is_among v s l ≡ true) is among in
    elim (cases_Bool (is_mark v s k.0 k.1)) [
      | inl t ↦ let same = mark_is v s k.0 k.1 t in omega (arith, same.0)
      | inr t ↦ less_le k v s (behind_all k v s rest order.0 (among_rest v s k rest here t))
    ]

pub least_second : (ks mid rest : List (ℕ × ℕ)) (k j : ℕ × ℕ) (v s : ℕ) → ks ≡ k ∷ mid → mid ≡ j ∷ rest → IsStrictlySortedBy cmp_mark ks → is_among v s ks ≡ true → s ≢ k.1 → j.0 ≤ v
unfolding IsStrictlySortedBy
least_second ks mid rest k j v s is next sorted among other =
    let order : IsStrictlySortedBy cmp_mark (k ∷ mid) = subst (λ (l : List (ℕ × ℕ)). IsStrictlySortedBy cmp_mark l) is sorted in
    let here : is_among v s (k ∷ mid) ≡ true = subst (λ (l : List (ℕ × ℕ)). is_among v s l ≡ true) is among in
    elim (cases_Bool (is_mark v s k.0 k.1)) [
      | inl t ↦ absurd (other (mark_is v s k.0 k.1 t).1)
      | inr t ↦ least_first mid rest j v s next order.1 (among_rest v s k mid here t)
    ]

head_among : (k : ℕ × ℕ) (ks : List (ℕ × ℕ)) → is_among k.0 k.1 (k ∷ ks) ≡ true
head_among k ks = rw (is_own k.0 k.1) refl

tail_among : (k j : ℕ × ℕ) (ks : List (ℕ × ℕ)) → is_among j.0 j.1 ks ≡ true → is_among j.0 j.1 (k ∷ ks) ≡ true
tail_among k j ks among = elim (cases_Bool (is_mark j.0 j.1 k.0 k.1)) [
  | inl t ↦ rw t refl
  | inr t ↦ rw t among
]

-- the second is of another slot than the first where no slot is marked twice
pub second_other : (ks mid rest : List (ℕ × ℕ)) (k j : ℕ × ℕ) → ks ≡ k ∷ mid → mid ≡ j ∷ rest → IsStrictlySortedBy cmp_mark ks → ((v w : ℕ) → is_among v k.1 ks ≡ true → is_among w k.1 ks ≡ true → v ≡ w) → j.1 ≢ k.1
unfolding IsStrictlySortedBy
second_other ks mid rest k j is next sorted one same =
    let order : IsStrictlySortedBy cmp_mark (k ∷ mid) = subst (λ (l : List (ℕ × ℕ)). IsStrictlySortedBy cmp_mark l) is sorted in
    let tail : is_among j.0 j.1 mid ≡ true = subst (λ (l : List (ℕ × ℕ)). is_among j.0 j.1 l ≡ true) (sym next) (head_among j rest) in
    let first : is_among k.0 k.1 ks ≡ true = subst (λ (l : List (ℕ × ℕ)). is_among k.0 k.1 l ≡ true) (sym is) (head_among k mid) in
    let second : is_among j.0 j.1 ks ≡ true = subst (λ (l : List (ℕ × ℕ)). is_among j.0 j.1 l ≡ true) (sym is) (tail_among k j mid tail) in
    let number : k.0 ≡ j.0 = one k.0 j.0 first (subst (λ (n : ℕ). is_among j.0 n ks ≡ true) same second) in
    let less : cmp_mark k (j.0, j.1) ≡ Less = behind_all k j.0 j.1 mid order.0 tail in
    let own : cmp_mark k (k.0, k.1) ≡ Less = subst (λ (n : ℕ). cmp_mark k (k.0, n) ≡ Less) same (subst (λ (n : ℕ). cmp_mark k (n, j.1) ≡ Less) (sym number) less) in
    let yes : is_mark k.0 k.1 k.0 k.1 ≡ true = is_own k.0 k.1 in
    let no : is_mark k.0 k.1 k.0 k.1 ≡ false = ap is_eq own in
    absurd (cc)

-- What a filter, an insertion and a search keep of a list, by what it contains.
use Rattle.std.proofs.Common.{◌≡◌, ℕ, zero, suc, Bool, true, false, not, List, [], ◌∷◌, ◌++◌, take, drop, None, Some, ◌⊎◌, inl, inr, refl, sym, ◌∙◌, ap, subst, arith}
use Rattle.std.specs.List.{All, Contains, filter, find, insert, list_any, remove}
use Rattle.std.proofs.lemmas.Bool.{cases_Bool, not-true, not_from_false, or_parts}
use Rattle.std.proofs.lemmas.List.{take-append-drop}
use Rattle.std.proofs.lemmas.List.Elements.{All-append, All-cons, All-contains_itself, All-drop, All-filter, All-nil, All-take, All-weaker, Contains-append_cases, Contains-append_left, Contains-append_right, filter_passes}
use Rattle.std.specs.Prelude.{get_or}

-- an element at the head, and one after it
pub contains_head : {X : Type 0} (x : X) (xs : List X) → Contains (x ∷ xs) x
contains_head x xs = (0, omega arith, refl)

pub contains_tail : {X : Type 0} (y : X) (xs : List X) (x : X) → Contains xs x → Contains (y ∷ xs) x
contains_tail y xs x there = (suc there.0, omega (arith, there.1), there.2)

contains_cases : {X : Type 0} (y : X) (xs : List X) (x : X) → Contains (y ∷ xs) x → (y ≡ x) ⊎ Contains xs x
contains_cases y xs x (zero, lt, is) = inl is
contains_cases y xs x (suc k, lt, is) = inr (k, omega (arith, lt), is)

-- an element that passes a test stands among those that pass
contains_filter : {X : Type 0} (p : X → Bool) (xs : List X) (x : X) → Contains xs x → p x ≡ true → Contains (filter p xs) x
contains_filter p [] x there passes = there
contains_filter {X} p (y ∷ ys) x there passes = elim (contains_cases y ys x there) [
  | inl is ↦ rw (ap p is ∙ passes) (subst (λ (z : X). Contains (z ∷ filter p ys) x) (sym is) (contains_head x (filter p ys)))
  | inr behind ↦ elim (cases_Bool (p y)) [
    | inl pass ↦ rw pass (contains_tail y (filter p ys) x (contains_filter p ys x behind passes))
    | inr fail ↦ rw fail (contains_filter p ys x behind passes)
  ]
]

-- what holds of each that stays
all_filter : {X : Type 0} (P Q : X → Type 0) (p : X → Bool) (xs : List X) → All P xs → ((x : X) → P x → p x ≡ true → Q x) → All Q (filter p xs)
all_filter P Q p xs all step = λ k d lt. step (get_or (filter p xs) k d) (All-filter p P xs all k d lt) (filter_passes p xs k d lt)

-- a list is another one with an element put somewhere
pub record Puts {X : Type 0} (x : X) (old new : List X) : Type 0 where
  pub each : All (λ y. (y ≡ x) ⊎ Contains old y) new
  pub here : Contains new x
  pub rest : (y : X) → Contains old y → Contains new y

-- a list is another one without those that fail a test
pub record Sifts {X : Type 0} (fails : X → Bool) (old new : List X) : Type 0 where
  pub each : All (λ y. Contains old y × (fails y ≡ false)) new
  pub rest : (y : X) → Contains old y → fails y ≡ false → Contains new y

-- an insertion puts an element
pub puts_insert : {X : Type 0} (x : X) (old : List X) (at : ℕ) → Puts x old (insert old at x)
puts_insert {X} x old at =
    let P : X → Type 0 = λ y. (y ≡ x) ⊎ Contains old y in
    let all : All P old = All-weaker (Contains old) P (λ y there. inr there) old (All-contains_itself old) in
    record {
      each = All-append P (take at old) (x ∷ drop at old) (All-take P at old all) (All-cons P x (drop at old) (inl refl) (All-drop P at old all));
      here = Contains-append_right (take at old) (x ∷ drop at old) x (contains_head x (drop at old));
      rest = λ y there.
          let split : Contains (take at old ++ drop at old) y = subst (λ (zs : List X). Contains zs y) (sym (take-append-drop at old)) there in
          elim (Contains-append_cases (take at old) (drop at old) y split) [
            | inl front ↦ Contains-append_left (take at old) (x ∷ drop at old) y front
            | inr back ↦ Contains-append_right (take at old) (x ∷ drop at old) y (contains_tail x (drop at old) y back)
          ];
    }

-- so does putting it between those that a test parts
pub puts_between : {X : Type 0} (before : X → Bool) (x : X) (old : List X) → Puts x old (filter before old ++ x ∷ filter (λ y. not (before y)) old)
puts_between {X} before x old =
    let P : X → Type 0 = λ y. (y ≡ x) ⊎ Contains old y in
    let all : All P old = All-weaker (Contains old) P (λ y there. inr there) old (All-contains_itself old) in
    let front : List X = filter before old in
    let back : List X = filter (λ y. not (before y)) old in
    record {
      each = All-append P front (x ∷ back) (All-filter before P old all) (All-cons P x back (inl refl) (All-filter (λ y. not (before y)) P old all));
      here = Contains-append_right front (x ∷ back) x (contains_head x back);
      rest = λ y there. elim (cases_Bool (before y)) [
        | inl first ↦ Contains-append_left front (x ∷ back) y (contains_filter before old y there first)
        | inr later ↦ Contains-append_right front (x ∷ back) y (contains_tail x back y (contains_filter (λ z. not (before z)) old y there (not_from_false (before y) later)))
      ];
    }

-- a filter sifts
pub sifts_filter : {X : Type 0} (fails : X → Bool) (old : List X) → Sifts fails old (filter (λ y. not (fails y)) old)
sifts_filter {X} fails old = record {
  each = all_filter (Contains old) (λ y. Contains old y × (fails y ≡ false)) (λ y. not (fails y)) old (All-contains_itself old) (λ y there stays. (there, not-true (fails y) stays));
  rest = λ y there stays. contains_filter (λ y. not (fails y)) old y there (not_from_false (fails y) stays);
}

-- where no element fails, all stay
pub sifts_none : {X : Type 0} (fails : X → Bool) (old : List X) → ((y : X) → fails y ≡ false) → Sifts fails old old
sifts_none fails old none = record {
  each = All-weaker (Contains old) (λ y. Contains old y × (fails y ≡ false)) (λ y there. (there, none y)) old (All-contains_itself old);
  rest = λ y there stays. there;
}

-- where no element passes a test, each fails it
pub none_pass : {X : Type 0} (p : X → Bool) (xs : List X) → list_any p xs ≡ false → All (λ x. p x ≡ false) xs
none_pass p [] is = All-nil (λ x. p x ≡ false)
none_pass p (x ∷ xs) is = let parts = or_parts (p x) (list_any p xs) is in All-cons (λ x. p x ≡ false) x xs parts.0 (none_pass p xs parts.1)

-- what is left where one is taken out
pub all_removed : {X : Type 0} (xs : List X) (at : ℕ) → All (Contains xs) (remove xs at)
all_removed xs at = All-append (Contains xs) (take at xs) (drop (suc at) xs) (All-take (Contains xs) at xs (All-contains_itself xs)) (All-drop (Contains xs) (suc at) xs (All-contains_itself xs))

-- what a search gives stands in the list and passes; where it gives nothing, nothing passes
pub record Finds {X : Type 0} (p : X → Bool) (xs : List X) (x : X) : Type 0 where
  pub is : find p xs ≡ Some x
  pub there : Contains xs x
  pub passes : p x ≡ true

pub find_cases : {X : Type 0} (p : X → Bool) (xs : List X) → ((x : X) × Finds p xs x) ⊎ ((find p xs ≡ None) × All (λ x. p x ≡ false) xs)
find_cases p [] = inr (refl, All-nil (λ x. p x ≡ false))
find_cases p (y ∷ ys) = elim (cases_Bool (p y)) [
  | inl pass ↦ inl (y, record { is = rw pass refl; there = contains_head y ys; passes = pass })
  | inr fail ↦ elim (find_cases p ys) [
    | inl some ↦ inl (some.0, record { is = rw fail some.1.is; there = contains_tail y ys some.0 some.1.there; passes = some.1.passes })
    | inr none ↦ inr (rw fail none.0, All-cons (λ x. p x ≡ false) y ys fail none.1)
  ]
]

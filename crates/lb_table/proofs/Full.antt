-- A lane has no free ID if it has as many queries as there are IDs, and else it has one.
use Rattle.std.proofs.Common.{◌≡◌, ℕ, zero, suc, ◌<◌, ◌≤◌, ◌^◌, ◌⊎◌, Bool, true, false, ◌==◌, ◌||◌, eqb, ltb, inl, inr, List, [], ◌∷◌, length, refl, sym, ap, ◌∙◌, arith}
use Rattle.std.specs.BTreeMap.{is_at as is_key}
use Rattle.std.specs.Cmp.{unsigned_ties}
use Rattle.std.specs.List.{AllByRecursion, IsDistinct, list_any}
use Rattle.std.specs.List.Sorted.{IsStrictlySortedBy}
use Rattle.std.specs.Map.{keys_of}
use Rattle.std.specs.Option.{is_some}
use Rattle.std.specs.Ordering.{eq_by_cmp, nat_cmp}
use Rattle.std.proofs.lemmas.Bool.{cases_Bool, eqb-true, ltb-true, ltb-false}
use Rattle.std.proofs.lemmas.Map.Keys.{IsDistinct-cons, IsDistinct-from_sorted}
use Rattle.std.proofs.lemmas.Map.Made.{is_some-lookup}
use Rattle.std.proofs.lemmas.Map.Steps.{le-length_from_below, length-le_from_distinct_below}
use Rattle.std.proofs.lemmas.Map.Entries.{length-keys_of}
use Rattle.lb_table.specs.Ids.{TellsFull}
use Rattle.lb_table.specs.Lanes.{slot_in}
use Rattle.lb_table.proofs.Without.{all_more}

-- each of the first n numbers passes, or one of them does not
each_or_one : (p : ℕ → Bool) (n : ℕ) → ((i : ℕ) → i < n → p i ≡ true) ⊎ ((i : ℕ) × (i < n) × (p i ≡ false))
each_or_one p zero = inl (λ i lt. absurd (omega (arith, lt)))
each_or_one p (suc n) = elim (each_or_one p n) [
  | inl each ↦ elim (cases_Bool (p n)) [
    | inl last ↦ inl (λ i lt. elim (cases_Bool (ltb i n)) [
      | inl below ↦ each i (ltb-true i n below)
      | inr past ↦ let same : i ≡ n = omega (arith, lt, ltb-false i n past) in ap p same ∙ last
    ])
    | inr off ↦ inr (n, omega arith, off)
  ]
  | inr one ↦ inr (one.0, omega (arith, one.1), one.2)
]

ties : (id : ℕ) (ks : List ℕ) → list_any (is_key (nat_cmp id)) ks ≡ list_any (eqb id) ks
ties id [] = refl
ties id (k ∷ ks) = rw (← unsigned_ties id k) (ap (λ (b : Bool). (id == k) || b) (ties id ks))

-- an ID has a slot if it is among the keys
among : (slots : List (ℕ × ℕ)) (id : ℕ) → is_some (slot_in slots id) ≡ list_any (eqb id) (keys_of slots)
among slots id = is_some-lookup (is_key (nat_cmp id)) slots ∙ ties id (keys_of slots)

same_apart : (ks : List ℕ) → IsDistinct (eq_by_cmp nat_cmp) ks → IsDistinct eqb ks
unfolding IsDistinct
same_apart [] apart = tt
same_apart (k ∷ ks) apart = (all_more (λ o. eq_by_cmp nat_cmp k o ≡ false) (λ o. eqb k o ≡ false) (λ o e. unsigned_ties k o ∙ e) ks apart.0, same_apart ks apart.1)

none_among : (id : ℕ) (ks : List ℕ) → list_any (eqb id) ks ≡ false → AllByRecursion (λ o. eqb id o ≡ false) ks
none_among id [] none = tt
none_among id (k ∷ ks) none = elim (cases_Bool (id == k)) [
  | inl t ↦ let no : true ≡ false = rw t at none in absurd (cc)
  | inr t ↦ (t, none_among id ks (rw t at none))
]

one_more_below : (n id : ℕ) (ks : List ℕ) → id < n → ((q : ℕ) → list_any (eqb q) ks ≡ true → q < n) → (q : ℕ) → list_any (eqb q) (id ∷ ks) ≡ true → q < n
one_more_below n id ks lt below q is = elim (cases_Bool (q == id)) [
  | inl t ↦ let same : q ≡ id = eqb-true q id t in omega (arith, same, lt)
  | inr t ↦ below q (rw t at is)
]

-- as many keys below n as n: each number below it is a key
all_there : (n : ℕ) (ks : List ℕ) → IsDistinct eqb ks → ((q : ℕ) → list_any (eqb q) ks ≡ true → q < n) → length ks ≡ n → (id : ℕ) → id < n → list_any (eqb id) ks ≡ true
all_there n ks apart below long id lt = elim (cases_Bool (list_any (eqb id) ks)) [
  | inl t ↦ t
  | inr t ↦
      let more : length (id ∷ ks) ≤ n = length-le_from_distinct_below (id ∷ ks) n (IsDistinct-cons eqb id ks (none_among id ks t) apart) (one_more_below n id ks lt below) in
      absurd (omega (arith, more, long))
]

-- fewer or more: one is none
one_lacks : (n : ℕ) (ks : List ℕ) → IsDistinct eqb ks → ((q : ℕ) → list_any (eqb q) ks ≡ true → q < n) → (length ks ≡ n → ⊥) → (id : ℕ) × (id < n) × (list_any (eqb id) ks ≡ false)
one_lacks n ks apart below other = elim (each_or_one (λ id. list_any (eqb id) ks) n) [
  | inl each ↦
      let few : length ks ≤ n = length-le_from_distinct_below ks n apart below in
      let many : n ≤ length ks = le-length_from_below ks n each in
      absurd (other (omega (arith, few, many)))
  | inr one ↦ one
]

keys_apart : (slots : List (ℕ × ℕ)) → IsStrictlySortedBy nat_cmp (keys_of slots) → IsDistinct eqb (keys_of slots)
keys_apart slots sorted = same_apart (keys_of slots) (IsDistinct-from_sorted nat_cmp (keys_of slots) sorted)

keys_below : (slots : List (ℕ × ℕ)) (n : ℕ) → ((id : ℕ) → is_some (slot_in slots id) ≡ true → id < n) → (q : ℕ) → list_any (eqb q) (keys_of slots) ≡ true → q < n
keys_below slots n within q is = within q (among slots q ∙ is)

-- by the number of the slots of a lane
pub full_is : (slots : List (ℕ × ℕ)) (n : ℕ) → IsStrictlySortedBy nat_cmp (keys_of slots) → ((id : ℕ) → is_some (slot_in slots id) ≡ true → id < n) → length slots ≡ n → (id : ℕ) → id < n → is_some (slot_in slots id) ≡ true
full_is slots n sorted within long id lt =
    among slots id ∙ all_there n (keys_of slots) (keys_apart slots sorted) (keys_below slots n within) (length-keys_of slots ∙ long) id lt

pub free_is : (slots : List (ℕ × ℕ)) (n : ℕ) → IsStrictlySortedBy nat_cmp (keys_of slots) → ((id : ℕ) → is_some (slot_in slots id) ≡ true → id < n) → (length slots ≡ n → ⊥) → (id : ℕ) × (id < n) × (is_some (slot_in slots id) ≡ false)
free_is slots n sorted within other =
    let one = one_lacks n (keys_of slots) (keys_apart slots sorted) (keys_below slots n within) (λ long. other (sym (length-keys_of slots) ∙ long)) in
    (one.0, one.1, among slots one.0 ∙ one.2)

pub tells_full : (slots : List (ℕ × ℕ)) (count : ℕ) → IsStrictlySortedBy nat_cmp (keys_of slots) → ((id : ℕ) → is_some (slot_in slots id) ≡ true → id < 2 ^ 16) → count ≡ length slots → TellsFull (λ id. is_some (slot_in slots id)) (count == 65536)
tells_full slots count sorted within is = elim (cases_Bool (count == 65536)) [
  | inl t ↦ rw t (full_is slots 65536 sorted within (sym is ∙ eqb-true count 65536 t))
  | inr t ↦ rw t (free_is slots 65536 sorted within (λ long. let on : (count == 65536) ≡ true = ap (λ (k : ℕ). k == 65536) (is ∙ long) in absurd (cc)))
]

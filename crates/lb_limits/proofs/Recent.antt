-- Moments that ascend, and those of them that count.
use Rattle.std.proofs.Common.{◌≡◌, Bool, true, false, not, ℕ, suc, ◌+◌, ◌-◌, ◌≤◌, List, [], ◌∷◌, ◌++◌, length, get_or, take, drop, subst, inl, inr, refl, sym, ◌∙◌, ap, arith, nat_lt, length-append, length-take, length-drop}
use Rattle.std.specs.List.{filter, All, AllPairs, AllWithin, slice_get}
use Rattle.std.specs.List.Sorted.{IsNonDecreasing, IsPartitionedBy, IsPartitionPoint}
use Rattle.std.specs.declared.option.Option.TheVariants.{Some}
use Rattle.std.proofs.lemmas.Bool.{cases_Bool}
use Rattle.std.proofs.lemmas.Bool.Decides.{nat_tests}
use Rattle.std.proofs.lemmas.List.{take-append-drop, get_or-take, get_or-drop, get_or_push}
use Rattle.std.proofs.lemmas.Option.{slice_get-get_or}
use Rattle.std.proofs.lemmas.List.Elements.{All-cons, All-head, All-tail, filter-append}
use Rattle.std.proofs.lemmas.List.Sums.{length-filter, count_by-le-length}
use Rattle.circular_buffer.specs.Buffer.{keep_last, last_item}
use Rattle.lb_limits.specs.Moments.{is_recent, recent_of, ends_recent}
use Rattle.lb_limits.proofs.Pairs.{pairs_head, pairs_tail, pairs_front, pairs_back, pairs_rise, rises_pairs}

pub filter_fewer : {X : Type 0} (p : X → Bool) (xs : List X) → length (filter p xs) ≤ length xs
filter_fewer p xs = omega (arith, length-filter p xs, count_by-le-length p xs)

pub filter_none : {X : Type 0} (p : X → Bool) (xs : List X) → All (λ x. p x ≡ false) xs → filter p xs ≡ []
filter_none p [] none = refl
filter_none p (x ∷ xs) none =
    let here : p x ≡ false = All-head (λ x. p x ≡ false) x xs none in
    rw here (filter_none p xs (All-tail (λ x. p x ≡ false) x xs none))

pub filter_all : {X : Type 0} (p : X → Bool) (xs : List X) → All (λ x. p x ≡ true) xs → filter p xs ≡ xs
filter_all {X} p [] all = refl
filter_all {X} p (x ∷ xs) all =
    let here : p x ≡ true = All-head (λ x. p x ≡ true) x xs all in
    rw here (ap (λ (ys : List X). x ∷ ys) (filter_all p xs (All-tail (λ x. p x ≡ true) x xs all)))

-- what stands before a place, and from it on
pub all_taken : {X : Type 0} (P : X → Type 0) (xs : List X) (i : ℕ) → AllWithin P xs 0 i → All P (take i xs)
all_taken P xs i all = λ k d lt. subst P (sym (get_or-take i xs k d (omega (arith, length-take i xs)))) (all k d (omega arith) (omega (arith, length-take i xs)))

pub all_dropped : {X : Type 0} (P : X → Type 0) (xs : List X) (i : ℕ) → AllWithin P xs i (length xs) → All P (drop i xs)
all_dropped P xs i all = λ k d lt. subst P (sym (get_or-drop i xs k d)) (all (i + k) d (omega arith) (omega (arith, length-drop i xs)))

pub untrue : (b : Bool) → not b ≡ true → b ≡ false
untrue true is = absurd (cc)
untrue false is = refl

pub unfalse : (b : Bool) → not b ≡ false → b ≡ true
unfalse true is = refl
unfalse false is = absurd (cc)

-- a moment that is no earlier counts as well
pub still_recent : (now m n : ℕ) → is_recent now m ≡ true → m ≤ n → is_recent now n ≡ true
still_recent now m n recent le = grind (arith, nat_tests)

-- a moment that does not count does not count later
pub still_old : (now later m : ℕ) → now ≤ later → is_recent now m ≡ false → is_recent later m ≡ false
still_old now later m le old = grind (arith, nat_tests)

pub older : (now m n : ℕ) → m ≤ n → not (is_recent now n) ≡ true → not (is_recent now m) ≡ true
older now m n le old = elim (cases_Bool (is_recent now m)) [
  | inl recent ↦
      let late : is_recent now n ≡ true = still_recent now m n recent le in
      absurd (cc)
  | inr is ↦ rw is refl
]

-- those that do not count stand before those that do
pub parted : (now : ℕ) (ms : List ℕ) → IsNonDecreasing ms → IsPartitionedBy (λ m. not (is_recent now m)) ms
parted now ms rises = λ i j d le within old. older now (get_or ms i d) (get_or ms j d) (rises i j d le within) old

-- so those that count are what stands from the place on
pub recent_from : (now : ℕ) (ms : List ℕ) (i : ℕ) → IsPartitionPoint (λ m. not (is_recent now m) ≡ true) (λ m. not (is_recent now m) ≡ false) ms i → recent_of now ms ≡ drop i ms
recent_from now ms i point =
    let front : recent_of now (take i ms) ≡ [] =
    filter_none (is_recent now) (take i ms) (λ k d lt. untrue (is_recent now (get_or (take i ms) k d)) (all_taken (λ m. not (is_recent now m) ≡ true) ms i point.0 k d lt)) in
    let back : recent_of now (drop i ms) ≡ drop i ms =
    filter_all (is_recent now) (drop i ms) (λ k d lt. unfalse (is_recent now (get_or (drop i ms) k d)) (all_dropped (λ m. not (is_recent now m) ≡ false) ms i point.1 k d lt)) in
    ap (λ (xs : List ℕ). recent_of now xs) (sym (take-append-drop i ms)) ∙ filter-append (is_recent now) (take i ms) (drop i ms) ∙ ap (λ (xs : List ℕ). xs ++ recent_of now (drop i ms)) front ∙ back

pub recent_count_is : (now : ℕ) (ms : List ℕ) (i : ℕ) → IsPartitionPoint (λ m. not (is_recent now m) ≡ true) (λ m. not (is_recent now m) ≡ false) ms i → length ms - i ≡ length (recent_of now ms)
recent_count_is now ms i point = omega (arith, ap (λ (xs : List ℕ). length xs) (recent_from now ms i point), length-drop i ms)

recent_all : (now m : ℕ) (ms : List ℕ) → AllPairs (λ x y. x ≤ y) (m ∷ ms) → is_recent now m ≡ true → recent_of now (m ∷ ms) ≡ m ∷ ms
recent_all now m ms pairs here =
    filter_all (is_recent now) (m ∷ ms)
    (All-cons (λ x. is_recent now x ≡ true) m ms here (λ k d lt. still_recent now m (get_or ms k d) here (pairs_head (λ x y. x ≤ y) m ms pairs k d lt)))

keep_all : (ms : List ℕ) → keep_last (length ms) ms ≡ ms
keep_all ms =
    let none : length ms - length ms ≡ 0 = omega arith in
    rw none refl

kept_last : (now : ℕ) (ms : List ℕ) → AllPairs (λ x y. x ≤ y) ms → keep_last (length (recent_of now ms)) ms ≡ recent_of now ms
kept_last now [] pairs = refl
kept_last now (m ∷ ms) pairs = elim (cases_Bool (is_recent now m)) [
  | inl here ↦
      let whole : recent_of now (m ∷ ms) ≡ m ∷ ms = recent_all now m ms pairs here in
      ap (λ (xs : List ℕ). keep_last (length xs) (m ∷ ms)) whole ∙ keep_all (m ∷ ms) ∙ sym whole
  | inr old ↦
      let rest : keep_last (length (recent_of now ms)) ms ≡ recent_of now ms = kept_last now ms (pairs_tail (λ x y. x ≤ y) m ms pairs) in
      let few : length (recent_of now ms) ≤ length ms = filter_fewer (is_recent now) ms in
      let gone : recent_of now (m ∷ ms) ≡ recent_of now ms = rw old refl in
      let more : length (m ∷ ms) - length (recent_of now ms) ≡ suc (length ms - length (recent_of now ms)) = omega arith in
      ap (λ (xs : List ℕ). keep_last (length xs) (m ∷ ms)) gone ∙ ap (λ (n : ℕ). drop n (m ∷ ms)) more ∙ rest ∙ sym gone
]

-- those that count are the last ones
pub forgets : (now : ℕ) (ms : List ℕ) → IsNonDecreasing ms → keep_last (length (recent_of now ms)) ms ≡ recent_of now ms
forgets now ms rises = kept_last now ms (pairs_rise ms rises)

-- moments given up earlier change nothing later
pub recent_twice : (m now : ℕ) (ms : List ℕ) → m ≤ now → recent_of now (recent_of m ms) ≡ recent_of now ms
recent_twice m now [] le = refl
recent_twice m now (x ∷ ms) le =
    let rest : recent_of now (recent_of m ms) ≡ recent_of now ms = recent_twice m now ms le in
    elim (cases_Bool (is_recent m x)) [
      | inr old ↦
          let later : is_recent now x ≡ false = still_old m now x le old in
          rw (old, later) rest
      | inl recent ↦ elim (cases_Bool (is_recent now x)) [
        | inl later ↦ rw (recent, later) (ap (λ (xs : List ℕ). x ∷ xs) rest)
        | inr later ↦ rw (recent, later) rest
      ]
    ]

pub positive : (n : ℕ) → nat_lt 0 (suc n) ≡ true
positive n = grind (arith, nat_tests)

ends_pairs : (now : ℕ) (ms : List ℕ) → AllPairs (λ x y. x ≤ y) ms → ends_recent now (last_item ms) ≡ nat_lt 0 (length (recent_of now ms))
ends_pairs now [] pairs = refl
ends_pairs now (m ∷ []) pairs = elim (cases_Bool (is_recent now m)) [ inl here ↦ rw here refl | inr old ↦ rw old refl ]
ends_pairs now (m ∷ n ∷ ms) pairs =
    let rest : ends_recent now (last_item (n ∷ ms)) ≡ nat_lt 0 (length (recent_of now (n ∷ ms))) = ends_pairs now (n ∷ ms) (pairs_tail (λ x y. x ≤ y) m (n ∷ ms) pairs) in
    let place : length (m ∷ n ∷ ms) - 1 ≡ suc (length (n ∷ ms) - 1) = omega arith in
    let last : last_item (m ∷ n ∷ ms) ≡ last_item (n ∷ ms) = ap (λ (k : ℕ). slice_get (m ∷ n ∷ ms) k) place in
    let same : nat_lt 0 (length (recent_of now (n ∷ ms))) ≡ nat_lt 0 (length (recent_of now (m ∷ n ∷ ms))) = elim (cases_Bool (is_recent now m)) [
      | inr old ↦ rw old refl
      | inl here ↦
          let next : is_recent now n ≡ true = still_recent now m n here (pairs 0 1 m (omega arith) (omega arith)) in
          rw (here, next) (positive (length (recent_of now ms)) ∙ sym (positive (suc (length (recent_of now ms)))))
    ] in
    ap (ends_recent now) last ∙ rest ∙ same

-- the last moment tells whether there is one that counts
pub ends_tell : (now : ℕ) (ms : List ℕ) → IsNonDecreasing ms → ends_recent now (last_item ms) ≡ nat_lt 0 (length (recent_of now ms))
ends_tell now ms rises = ends_pairs now ms (pairs_rise ms rises)

pub last_push : (ms : List ℕ) (m : ℕ) → last_item (ms ++ m ∷ []) ≡ Some m
last_push ms m =
    let size : length (ms ++ m ∷ []) - 1 ≡ length ms = omega (arith, length-append ms (m ∷ [])) in
    ap (λ (k : ℕ). slice_get (ms ++ m ∷ []) k) size ∙ slice_get-get_or (ms ++ m ∷ []) (length ms) m (omega (arith, length-append ms (m ∷ []))) ∙ ap Some (get_or_push ms m m (length ms) refl)

pub rises_front : (xs ys : List ℕ) → IsNonDecreasing (xs ++ ys) → IsNonDecreasing xs
rises_front xs ys rises = rises_pairs xs (pairs_front (λ x y. x ≤ y) xs ys (pairs_rise (xs ++ ys) rises))

pub rises_back : (xs ys : List ℕ) → IsNonDecreasing (xs ++ ys) → IsNonDecreasing ys
rises_back xs ys rises = rises_pairs ys (pairs_back (λ x y. x ≤ y) xs ys (pairs_rise (xs ++ ys) rises))

-- Lists in which a relation holds of each element and each later one.
use Rattle.std.proofs.Common.{◌≡◌, ℕ, suc, ◌≤◌, List, [], ◌∷◌, ◌++◌, get_or, map, inl, inr, arith}
use Rattle.std.specs.List.{All, AllPairs}
use Rattle.std.specs.List.Sorted.{IsNonDecreasing}
use Rattle.std.proofs.lemmas.Bool.{cases_lt}
use Rattle.std.proofs.lemmas.List.Elements.{All-nil, All-cons, All-head, All-tail, All-append, All-map}
use Rattle.std.proofs.lemmas.List.Kept.{AllPairs-cons}

module _ {X : Type 0} (P : X → Type 0) where
  pub all_front : (xs ys : List X) → All P (xs ++ ys) → All P xs
  all_front [] ys all = All-nil P
  all_front (x ∷ xs) ys all = All-cons P x xs (All-head P x (xs ++ ys) all) (all_front xs ys (All-tail P x (xs ++ ys) all))

  pub all_back : (xs ys : List X) → All P (xs ++ ys) → All P ys
  all_back [] ys all = all
  all_back (x ∷ xs) ys all = all_back xs ys (All-tail P x (xs ++ ys) all)

module _ {X : Type 0} (R : X → X → Type 0) where
  pub pairs_head : (x : X) (xs : List X) → AllPairs R (x ∷ xs) → All (R x) xs
  pairs_head x xs pairs = λ k d lt. pairs 0 (suc k) d (omega arith) (omega arith)

  pub pairs_tail : (x : X) (xs : List X) → AllPairs R (x ∷ xs) → AllPairs R xs
  pairs_tail x xs pairs = λ i j d lt within. pairs (suc i) (suc j) d (omega arith) (omega arith)

  pub pairs_append : (xs ys : List X) → AllPairs R xs → AllPairs R ys → All (λ x. All (R x) ys) xs → AllPairs R (xs ++ ys)
  pairs_append [] ys front back cross = back
  pairs_append (x ∷ xs) ys front back cross =
      AllPairs-cons R x (xs ++ ys) (All-append (R x) xs ys (pairs_head x xs front) (All-head (λ x. All (R x) ys) x xs cross))
      (pairs_append xs ys (pairs_tail x xs front) back (All-tail (λ x. All (R x) ys) x xs cross))

  pub pairs_front : (xs ys : List X) → AllPairs R (xs ++ ys) → AllPairs R xs
  pairs_front [] ys pairs = λ i j d lt within. absurd (omega arith)
  pairs_front (x ∷ xs) ys pairs =
      AllPairs-cons R x xs (all_front (R x) xs ys (pairs_head x (xs ++ ys) pairs)) (pairs_front xs ys (pairs_tail x (xs ++ ys) pairs))

  pub pairs_back : (xs ys : List X) → AllPairs R (xs ++ ys) → AllPairs R ys
  pairs_back [] ys pairs = pairs
  pairs_back (x ∷ xs) ys pairs = pairs_back xs ys (pairs_tail x (xs ++ ys) pairs)

  pub pairs_cross : (xs ys : List X) → AllPairs R (xs ++ ys) → All (λ x. All (R x) ys) xs
  pairs_cross [] ys pairs = All-nil (λ x. All (R x) ys)
  pairs_cross (x ∷ xs) ys pairs =
      All-cons (λ x. All (R x) ys) x xs (all_back (R x) xs ys (pairs_head x (xs ++ ys) pairs)) (pairs_cross xs ys (pairs_tail x (xs ++ ys) pairs))

  -- one that stands between the front and the back
  pub pairs_insert : (xs : List X) (y : X) (ys : List X) → AllPairs R (xs ++ ys) → All (λ x. R x y) xs → All (R y) ys → AllPairs R (xs ++ y ∷ ys)
  pairs_insert xs y ys pairs below above =
      pairs_append xs (y ∷ ys) (pairs_front xs ys pairs) (AllPairs-cons R y ys above (pairs_back xs ys pairs))
      (λ k d lt. All-cons (R (get_or xs k d)) y ys (below k d lt) (pairs_cross xs ys pairs k d lt))

  pub pairs_remove : (xs : List X) (y : X) (ys : List X) → AllPairs R (xs ++ y ∷ ys) → AllPairs R (xs ++ ys)
  pairs_remove xs y ys pairs =
      pairs_append xs ys (pairs_front xs (y ∷ ys) pairs) (pairs_tail y ys (pairs_back xs (y ∷ ys) pairs))
      (λ k d lt. All-tail (R (get_or xs k d)) y ys (pairs_cross xs (y ∷ ys) pairs k d lt))

pub pairs_map : {X Y : Type 0} (R : X → X → Type 0) (S : Y → Y → Type 0) (f : X → Y) → ((x y : X) → R x y → S (f x) (f y)) → (xs : List X) → AllPairs R xs → AllPairs S (map f xs)
pairs_map {X} {Y} R S f says [] pairs = λ i j d lt within. absurd (omega arith)
pairs_map {X} {Y} R S f says (x ∷ xs) pairs =
    AllPairs-cons S (f x) (map f xs) (All-map (S (f x)) f xs (λ k d lt. says x (get_or xs k d) (pairs_head R x xs pairs k d lt)))
    (pairs_map R S f says xs (pairs_tail R x xs pairs))

-- numbers that do not fall, as pairs
pub pairs_rise : (xs : List ℕ) → IsNonDecreasing xs → AllPairs (λ x y. x ≤ y) xs
pairs_rise xs rises = λ i j d lt within. rises i j d (omega arith) within

pub rises_pairs : (xs : List ℕ) → AllPairs (λ x y. x ≤ y) xs → IsNonDecreasing xs
rises_pairs xs pairs = λ i j d le within. elim (cases_lt i j) [
  | inl lt ↦ pairs i j d lt within
  | inr ge ↦
      let same : i ≡ j = omega arith in
      rw same (omega arith)
]

-- Sums and joined lists over elements of which some add nothing.
use Rattle.std.proofs.Common.{◌≡◌, Bool, false, ℕ, ◌+◌, List, [], ◌∷◌, ◌++◌, inl, inr, refl, sym, ◌∙◌, ap, arith}
use Rattle.std.specs.List.{filter, flat_map, sum_by, All}
use Rattle.std.proofs.lemmas.Bool.{cases_Bool}
use Rattle.std.proofs.lemmas.List.Elements.{All-head, All-tail}
use Rattle.std.proofs.lemmas.List.Sums.{sum_by-cons, sum_by-append}

module _ {X : Type 0} where
  -- what is left out added nothing
  pub sum_filter : (P : X → Type 0) (p : X → Bool) (f : X → ℕ) → ((x : X) → P x → p x ≡ false → f x ≡ 0) → (xs : List X) → All P xs → sum_by f (filter p xs) ≡ sum_by f xs
  sum_filter P p f nothing [] all = refl
  sum_filter P p f nothing (x ∷ xs) all =
      let rest : sum_by f (filter p xs) ≡ sum_by f xs = sum_filter P p f nothing xs (All-tail P x xs all) in
      elim (cases_Bool (p x)) [
        | inl stays ↦ rw stays (sum_by-cons f x (filter p xs) ∙ ap (λ (n : ℕ). f x + n) rest ∙ sym (sum_by-cons f x xs))
        | inr goes ↦
            let nil : f x ≡ 0 = nothing x (All-head P x xs all) goes in
            let whole : sum_by f xs ≡ sum_by f (x ∷ xs) = omega (arith, sum_by-cons f x xs) in
            rw goes (rest ∙ whole)
      ]

  pub flat_filter : {Y : Type 0} (P : X → Type 0) (p : X → Bool) (f : X → List Y) → ((x : X) → P x → p x ≡ false → f x ≡ []) → (xs : List X) → All P xs → flat_map f (filter p xs) ≡ flat_map f xs
  flat_filter {Y} P p f nothing [] all = refl
  flat_filter {Y} P p f nothing (x ∷ xs) all =
      let rest : flat_map f (filter p xs) ≡ flat_map f xs = flat_filter P p f nothing xs (All-tail P x xs all) in
      elim (cases_Bool (p x)) [
        | inl stays ↦ rw stays (ap (λ (ys : List Y). f x ++ ys) rest)
        | inr goes ↦
            let none_here : f x ≡ [] = nothing x (All-head P x xs all) goes in
            rw goes (rest ∙ sym (ap (λ (ys : List Y). ys ++ flat_map f xs) none_here))
      ]

  pub sum_none : (f : X → ℕ) (xs : List X) → All (λ x. f x ≡ 0) xs → sum_by f xs ≡ 0
  sum_none f [] all = refl
  sum_none f (x ∷ xs) all =
      omega (arith, sum_by-cons f x xs, All-head (λ x. f x ≡ 0) x xs all, sum_none f xs (All-tail (λ x. f x ≡ 0) x xs all))

  -- the sum round one element
  pub sum_round : (f : X → ℕ) (xs : List X) (x : X) (ys : List X) → sum_by f (xs ++ x ∷ ys) ≡ sum_by f xs + f x + sum_by f ys
  sum_round f xs x ys = omega (arith, sum_by-append f xs (x ∷ ys), sum_by-cons f x ys)

-- Requests that wait, and the entries of an ordered map.
use Rattle.std.proofs.Common.{◌≡◌, ℕ, ◌<◌, ◌≤◌, ◌==◌, nat_lt, true, false, List, [], ◌∷◌, ◌++◌, refl, inl, inr, arith}
use Rattle.std.proofs.lemmas.Bool.{cases_Bool, cases_eq, cases_lt, eq-eqb, le-ltb, lt-ltb, ne_eqb}
use Rattle.std.specs.Ordering.{is_eq, nat_cmp}
use Rattle.std.specs.BTreeMap.{insert_entry, is_at}
use Rattle.std.specs.Map.{lookup, remove_entry}
use Rattle.lb_doh.specs.Waiting.{are_given, waits_under, without}

-- a number is compared with another as equal where it is the other
same_number : (a b : ℕ) → is_eq (nat_cmp a b) ≡ (b == a)
same_number a b = elim (cases_lt a b) [
  | inl less ↦ rw (lt-ltb a b less, ne_eqb b a (λ is. omega arith)) refl
  | inr most ↦ rw (le-ltb a b most) (elim (cases_eq a b) [
    | inl is ↦ rw (eq-eqb a b is, eq-eqb b a (omega arith)) refl
    | inr other ↦ rw (ne_eqb a b other, ne_eqb b a (λ is. omega arith)) refl
  ])
]

module _ {W : Type 0} where
  -- a number over all others comes last
  pub put_last : (last number : ℕ) (waker : W) (requests : List (ℕ × W)) → are_given last requests → last < number
      → insert_entry nat_cmp requests number waker ≡ requests ++ (number, waker) ∷ []
  put_last last number waker [] given less = refl
  put_last last number waker (request ∷ requests) given less =
      let within = given.0 in
      rw (le-ltb number request.0 (omega arith), ne_eqb number request.0 (λ is. omega arith), put_last last number waker requests given.1 less) refl

  -- the numbers are given that were, and one more
  pub given_more : (last number : ℕ) (waker : W) (requests : List (ℕ × W)) → are_given last requests → last ≤ number
      → are_given number (requests ++ (number, waker) ∷ [])
  given_more last number waker [] given most = (omega arith, tt)
  given_more last number waker (request ∷ requests) given most =
      let within = given.0 in
      (omega arith, given_more last number waker requests given.1 most)

  -- the numbers of the others are given
  pub given_without : (last number : ℕ) (requests : List (ℕ × W)) → are_given last requests → are_given last (without number requests)
  given_without last number [] given = tt
  given_without last number (request ∷ requests) given = elim (cases_Bool (request.0 == number)) [
    | inl is ↦ rw is given.1
    | inr other ↦ rw other (given.0, given_without last number requests given.1)
  ]

  -- what is found under a number
  pub found_under : (number : ℕ) (requests : List (ℕ × W)) → lookup (is_at (nat_cmp number)) requests ≡ waits_under number requests
  found_under number [] = refl
  found_under number (request ∷ requests) = rw (same_number number request.0, found_under number requests) refl

  -- what is left without a number
  pub left_without : (number : ℕ) (requests : List (ℕ × W)) → remove_entry (is_at (nat_cmp number)) requests ≡ without number requests
  left_without number [] = refl
  left_without number (request ∷ requests) = rw (same_number number request.0, left_without number requests) refl

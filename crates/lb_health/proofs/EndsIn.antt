-- How many of one result a list ends with.
use Rattle.std.proofs.Common.{◌≡◌, ℕ, zero, suc, ◌+◌, ◌<◌, ◌≤◌, Bool, true, false, if◌then◌else◌, List, [], ◌∷◌, ◌++◌, replicate, refl, sym, ◌∙◌, ap, arith}
use Rattle.std.proofs.lemmas.List.{append_assoc, append-nil, replicate_more}
use Rattle.std.specs.Bool.{beq}
use Rattle.lb_health.specs.Health.{EndsIn}

-- how many of this result so many of them and then a list end with
abbrev pub tail_of : Bool → ℕ → List Bool → ℕ
tail_of ok n [] = n
tail_of ok n (x ∷ xs) = tail_of ok (if beq x ok then n + 1 else 0) xs

-- one list, and then another
pub tail-append : (ok : Bool) (n : ℕ) (xs ys : List Bool) → tail_of ok n (xs ++ ys) ≡ tail_of ok (tail_of ok n xs) ys
tail-append ok n [] ys = refl
tail-append ok n (x ∷ xs) ys = tail-append ok (if beq x ok then n + 1 else 0) xs ys

-- so many more of them
pub tail-replicate : (ok : Bool) (n k : ℕ) → tail_of ok n (replicate k ok) ≡ n + k
tail-replicate ok n zero = omega arith
tail-replicate true n (suc k) = tail-replicate true (n + 1) k ∙ omega arith
tail-replicate false n (suc k) = tail-replicate false (n + 1) k ∙ omega arith

-- a list that ends with so many has as many at its end
ends_tail : (ok : Bool) (k : ℕ) (xs : List Bool) → EndsIn k ok xs → k ≤ tail_of ok 0 xs
ends_tail ok k xs ends =
    let count : tail_of ok 0 xs ≡ tail_of ok 0 ends.0 + k =
    ap (λ (ys : List Bool). tail_of ok 0 ys) ends.1 ∙ tail-append ok 0 ends.0 (replicate k ok) ∙ tail-replicate ok (tail_of ok 0 ends.0) k in
    omega (arith, count)

-- so many of them and then a list end with as many as are counted
tail_ends : (ok : Bool) (n : ℕ) (xs : List Bool) → EndsIn (tail_of ok n xs) ok (replicate n ok ++ xs)
tail_ends ok n [] = ([], append-nil (replicate n ok))
tail_ends true n (true ∷ xs) =
    let after = tail_ends true (n + 1) xs in
    (after.0, sym (append_assoc (replicate n true) (true ∷ []) xs) ∙ ap (λ (ys : List Bool). ys ++ xs) (replicate_more n true) ∙ after.1)
tail_ends false n (false ∷ xs) =
    let after = tail_ends false (n + 1) xs in
    (after.0, sym (append_assoc (replicate n false) (false ∷ []) xs) ∙ ap (λ (ys : List Bool). ys ++ xs) (replicate_more n false) ∙ after.1)
tail_ends true n (false ∷ xs) =
    let after = tail_ends true 0 xs in
    (replicate n true ++ false ∷ after.0, ap (λ (ys : List Bool). replicate n true ++ false ∷ ys) after.1 ∙ sym (append_assoc (replicate n true) (false ∷ after.0) (replicate (tail_of true 0 xs) true)))
tail_ends false n (true ∷ xs) =
    let after = tail_ends false 0 xs in
    (replicate n false ++ true ∷ after.0, ap (λ (ys : List Bool). replicate n false ++ true ∷ ys) after.1 ∙ sym (append_assoc (replicate n false) (true ∷ after.0) (replicate (tail_of false 0 xs) false)))

-- a list ends with no more than are counted
pub short_of : (ok : Bool) (k : ℕ) (xs : List Bool) → tail_of ok 0 xs < k → EndsIn k ok xs → ⊥
short_of ok k xs few ends = absurd (omega (arith, few, ends_tail ok k xs ends))

-- and with as many as are counted
pub ends_in : (ok : Bool) (k : ℕ) (xs : List Bool) → tail_of ok 0 xs ≡ k → EndsIn k ok xs
ends_in ok k xs is = rw (← is) (tail_ends ok 0 xs)

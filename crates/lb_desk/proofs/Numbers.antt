-- The numbers of the seats of a desk.
use Rattle.std.proofs.Common.{All, List, [], ap, arith, map, rules, subst, suc, sym, zero, ◌++◌, ◌+◌, ◌∙◌, ◌∷◌, ◌≡◌, ℕ}
use Rattle.std.proofs.lemmas.List.{map-append}
use Rattle.std.proofs.lemmas.List.Elements.{All-append}
use Rattle.std.specs.List.{range_with_len}

range_grown : (a n : ℕ) → range_with_len a (n + 1) ≡ range_with_len a n ++ (a + n) ∷ []
range_grown a zero = let is : a ≡ a + 0 = omega arith in ap (λ k. k ∷ []) is
range_grown a (suc n) =
    let next : suc n + 1 ≡ suc (n + 1) = omega arith in
    let last : (a + 1) + n ≡ a + suc n = omega arith in
    ap (range_with_len a) next ∙ ap (λ l. a ∷ l) (range_grown (a + 1) n) ∙ ap (λ k. (a ∷ range_with_len (a + 1) n) ++ k ∷ []) last

-- one seat more, with the next number
pub numbers_grown : {S : Type 0} (number : S → ℕ) (seats new : List S) (seat : S) (n : ℕ) → map number seats ≡ range_with_len 0 n → number seat ≡ n → new ≡ seats ++ seat ∷ []
    → map number new ≡ range_with_len 0 (n + 1)
numbers_grown number seats new seat n so_far mine is =
    let last : number seat ≡ 0 + n = omega (arith, mine) in
    ap (map number) is ∙ map-append number seats (seat ∷ []) ∙ ap (λ l. l ++ number seat ∷ []) so_far ∙ ap (λ k. range_with_len 0 n ++ k ∷ []) last ∙ sym (range_grown 0 n)

-- what holds of each seat, with one more
pub each_grown : {S : Type 0} (P : S → Type 0) (seats new : List S) (seat : S) → All P seats → P seat → new ≡ seats ++ seat ∷ [] → All P new
each_grown P seats new seat each last is = subst (λ l. All P l) (sym is) (All-append P seats (seat ∷ []) each (search rules))

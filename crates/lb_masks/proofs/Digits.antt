-- Numbers that are read digit by digit.
use Rattle.std.proofs.Common.{◌≡◌, ℕ, ◌+◌, ◌*◌, ◌<◌, ◌≤◌, Bool, true, false, ◌&&◌, if◌then◌else◌, List, [], ◌∷◌, length, get_or, drop, Option, Some, None, refl, ◌∙◌, ap, arith}
use Rattle.std.proofs.lemmas.Bool.{lt-leb, cond-false}
use Rattle.std.proofs.Math.Nat.{mul-le-mul_left}
use Rattle.std.proofs.lemmas.List.{drop_more}
use Rattle.std.specs.Prelude.{nat_le}
use Rattle.std.specs.List.{list_all}
use Rattle.std.specs.Char.{digit_value, is_digit}
use Rattle.std.specs.Str.Parse.{digits_value_after}

-- the number that a text spells after the digits of another
abbrev pub rest_up_to : ℕ → ℕ → ℕ → List ℕ → Option ℕ
rest_up_to radix most n text =
    if list_all (λ b. is_digit b radix) text && nat_le (digits_value_after radix n text) most then Some (digits_value_after radix n text) else None

-- digits make a number no smaller
at_least : (radix n : ℕ) (text : List ℕ) → 1 ≤ radix → n ≤ digits_value_after radix n text
at_least radix n [] some = omega arith
at_least radix n (b ∷ text) some = omega (arith, mul-le-mul_left n some, at_least radix (n * radix + digit_value b) text some)

and_false : (a b : Bool) → b ≡ false → (a && b) ≡ false
and_false true b is = is
and_false false b is = refl

-- what is over the most stays so
pub number_over : (radix most n digit i : ℕ) (text : List ℕ) → 1 ≤ radix → i < length text → digit ≡ digit_value (get_or text i 0) → most < n * radix + digit → rest_up_to radix most n (drop i text) ≡ None
number_over radix most n digit i text some within digit_is over =
    let b : ℕ = get_or text i 0 in
    let after : List ℕ = drop (i + 1) text in
    let next : n * radix + digit ≡ n * radix + digit_value b = ap (λ (d : ℕ). n * radix + d) digit_is in
    let big : n * radix + digit_value b ≤ digits_value_after radix (n * radix + digit_value b) after = at_least radix (n * radix + digit_value b) after some in
    let past : nat_le (digits_value_after radix (n * radix + digit_value b) after) most ≡ false = lt-leb _ _ (omega (arith, next, big)) in
    ap (λ (left : List ℕ). rest_up_to radix most n left) (drop_more text i 0 within)
    ∙ cond-false _ _ _ (and_false (list_all (λ c. is_digit c radix) (b ∷ after)) _ past)

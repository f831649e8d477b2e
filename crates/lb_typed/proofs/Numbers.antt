-- What a number is written as is read as that number.
use Rattle.std.proofs.Common.{◌≡◌, ℕ, zero, suc, ◌<◌, ◌≤◌, ◌^◌, true, ◌&&◌, List, [], ◌∷◌, length, Option, Some, refl, ap, subst, ◌∙◌, arith}
use Rattle.std.specs.Prelude.{nat_le, nat_lt}
use Rattle.std.specs.Char.{digit_value, is_digit}
use Rattle.std.specs.Fmt.{decimal}
use Rattle.std.specs.List.{list_all}
use Rattle.std.specs.Str.Parse.{AllDigits, digits_value}
use Rattle.std.specs.declared.num.NonZeroU8.{NonZeroU8}
use Rattle.std.specs.declared.num.NonZeroU16.{NonZeroU16}
use Rattle.std.proofs.Math.Bridge.{le_prop}
use Rattle.std.proofs.lemmas.Bool.{le-leb, lt-ltb}
use Rattle.std.proofs.lemmas.Bool.Decides.{nat_tests}
use Rattle.std.proofs.lemmas.Fmt.{decimal_is_IsNumeral}
use Rattle.std.proofs.lemmas.Grind.{common_steps}
use Rattle.lb_masks.specs.Number.{number_up_to}
use Rattle.lb_command.specs.Line.{is_word_byte}
use Rattle.lb_command.specs.Values.{count_of, in_range, non_zero, non_zero_port, number_of, port_of, word_number}
use Rattle.lb_typed.specs.Words.{IsWord, Types}

pub digits_pass : (radix : ℕ) (digits : List ℕ) → AllDigits radix digits → list_all (λ b. is_digit b radix) digits ≡ true
digits_pass radix [] each = refl
digits_pass radix (c ∷ cs) each = rw (lt-ltb (digit_value c) radix each.0, digits_pass radix cs each.1) refl

-- a number is read back
pub number_back : (most n : ℕ) → n < 2 ^ 64 → n ≤ most → number_up_to 10 most (decimal n) ≡ Some n
number_back most n small within =
    let d = decimal_is_IsNumeral n small in
    let some : nat_lt 0 (length (decimal n)) ≡ true = lt-ltb 0 (length (decimal n)) d.0.0 in
    let all : list_all (λ b. is_digit b 10) (decimal n) ≡ true = digits_pass 10 (decimal n) d.0.1 in
    let fits : nat_le (digits_value 10 (decimal n)) most ≡ true = rw d.1 (le-leb n most within) in
    rw (some, all, fits) (ap (λ (k : ℕ). Some k) d.1)

digit_is_word : (c : ℕ) → digit_value c < 10 → is_word_byte c ≡ true
digit_is_word c is = grind (arith, common_steps, is)

digits_are_word : (digits : List ℕ) → AllDigits 10 digits → list_all is_word_byte digits ≡ true
digits_are_word [] each = refl
digits_are_word (c ∷ cs) each = rw (digit_is_word c each.0, digits_are_word cs each.1) refl

pub decimal_word : (n : ℕ) → n < 2 ^ 64 → IsWord (decimal n)
decimal_word n small =
    let d = decimal_is_IsNumeral n small in
    record { some = d.0.0; each = digits_are_word (decimal n) d.0.1 }

pub number : (n : ℕ) → n < 2 ^ 64 → Types number_of n (decimal n)
number n small = record { is_word = decimal_word n small; says = number_back 18446744073709551615 n small (omega (arith, small)) }

pub up_to : (most n : ℕ) → n < 2 ^ 64 → n ≤ most → Types (number_up_to 10 most) n (decimal n)
up_to most n small within = record { is_word = decimal_word n small; says = number_back most n small within }

pub small_number : (n : ℕ) → n < 2 ^ 16 → Types word_number n (decimal n)
small_number n small = record { is_word = decimal_word n (omega (arith, small)); says = number_back 65535 n (omega (arith, small)) (omega (arith, small)) }

pub ranged : (low high n : ℕ) → low ≤ n → n ≤ high → n < 2 ^ 32 → Types (in_range low high) n (decimal n)
ranged low high n least most small =
    record {
      is_word = decimal_word n (omega (arith, small));
      says = rw (number_back 4294967295 n (omega (arith, small)) (omega (arith, small)), le-leb low n least, le-leb n high most) refl;
    }

abbrev counted : (n : ℕ) → 1 ≤ n → NonZeroU8
counted n ok = record { value = n; ok = ok }

alike : (n m : ℕ) (p : 1 ≤ n) (q : 1 ≤ m) → n ≡ m → counted n p ≡ counted m q
alike n m p q e = subst (λ (k : ℕ). (r : 1 ≤ k) → counted n p ≡ counted k r) e (λ r. ap (counted n) (le_prop p r)) q

is_some_number : (n : ℕ) (x : NonZeroU8) → x.value ≡ n → non_zero n ≡ Some x
is_some_number zero x e =
    let some = x.ok in
    absurd (omega (arith, e, some))
is_some_number (suc n) x e = ap (λ (y : NonZeroU8). Some y) (alike (suc n) x.value _ x.ok (omega (arith, e)))

pub count : (x : NonZeroU8) → x.value < 2 ^ 8 → Types count_of x (decimal x.value)
count x small =
    record {
      is_word = decimal_word x.value (omega (arith, small));
      says = rw (number_back 255 x.value (omega (arith, small)) (omega (arith, small))) (is_some_number x.value x refl);
    }

abbrev a_port : (n : ℕ) → 1 ≤ n → NonZeroU16
a_port n ok = record { value = n; ok = ok }

alike_ports : (n m : ℕ) (p : 1 ≤ n) (q : 1 ≤ m) → n ≡ m → a_port n p ≡ a_port m q
alike_ports n m p q e = subst (λ (k : ℕ). (r : 1 ≤ k) → a_port n p ≡ a_port k r) e (λ r. ap (a_port n) (le_prop p r)) q

is_some_port : (n : ℕ) (x : NonZeroU16) → x.value ≡ n → non_zero_port n ≡ Some x
is_some_port zero x e =
    let some = x.ok in
    absurd (omega (arith, e, some))
is_some_port (suc n) x e = ap (λ (y : NonZeroU16). Some y) (alike_ports (suc n) x.value _ x.ok (omega (arith, e)))

pub port : (x : NonZeroU16) → x.value < 2 ^ 16 → Types port_of x (decimal x.value)
port x small =
    record {
      is_word = decimal_word x.value (omega (arith, small));
      says = rw (number_back 65535 x.value (omega (arith, small)) (omega (arith, small))) (is_some_port x.value x refl);
    }

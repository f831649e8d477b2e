-- Octets as words of hexadecimal digits.
use Rattle.std.proofs.Common.{◌≡◌, ℕ, zero, suc, ◌+◌, ◌*◌, ◌<◌, ◌≤◌, ◌==◌, true, false, ◌&&◌, ◌||◌, if◌then◌else◌, List, [], ◌∷◌, ◌++◌, length, Ok, Option, Some, refl, sym, ap, ◌∙◌, arith, codes}
use Rattle.std.specs.Prelude.{bytes_eq, nat_lt}
use Rattle.std.specs.Result.{result_ok}
use Rattle.std.specs.List.{AllPass, list_all}
use Rattle.std.proofs.lemmas.Bool.{le-ltb, ne_eqb}
use Rattle.std.proofs.lemmas.List.Elements.{All-head, All-tail}
use Rattle.std.proofs.lemmas.Grind.{common_steps}
use Rattle.hex.specs.Hex.{IsBytes, decode_of, encode_lower, is_hex_digit}
use Rattle.hex.proofs.HexLemmas.{decode_of-encode_lower, decode_of-ok}
use Rattle.lb_wire.specs.Octets.{max_message}
use Rattle.lb_command.specs.Answers.{hex_text}
use Rattle.lb_command.specs.Line.{is_word_byte}
use Rattle.lb_command.specs.Values.{hex_of}
use Rattle.lb_typed.specs.Words.{IsWord, Types}

digit_is_word : (c : ℕ) → is_hex_digit c ≡ true → is_word_byte c ≡ true
digit_is_word c is = grind (arith, common_steps, is)

digits_are_word : (digits : List ℕ) → AllPass is_hex_digit digits → list_all is_word_byte digits ≡ true
digits_are_word [] each = refl
digits_are_word (c ∷ cs) each = rw (digit_is_word c (All-head (λ d. is_hex_digit d ≡ true) c cs each), digits_are_word cs (All-tail (λ d. is_hex_digit d ≡ true) c cs each)) refl

-- a text of two bytes or more is no dash
no_dash : (text : List ℕ) → 1 < length text → bytes_eq text (codes "-") ≡ false
no_dash [] long = refl
no_dash (b ∷ []) long = absurd (omega (arith, long))
no_dash (b ∷ d ∷ ds) long = grind (arith, common_steps)

pub octets : (bytes : List ℕ) → IsBytes bytes → length bytes ≤ max_message → Types hex_of bytes (hex_text bytes)
octets [] are few = record { is_word = record { some = omega arith; each = refl }; says = refl }
octets (b ∷ bs) are few =
    let back = decode_of-encode_lower (b ∷ bs) are in
    let digits = decode_of-ok (encode_lower (b ∷ bs)) (b ∷ bs) back in
    let some : (length (encode_lower (b ∷ bs)) == 0) ≡ false = ne_eqb (length (encode_lower (b ∷ bs))) 0 (λ none. omega (arith, none, digits.2)) in
    let within : nat_lt (2 * max_message) (length (encode_lower (b ∷ bs))) ≡ false = le-ltb (2 * max_message) (length (encode_lower (b ∷ bs))) (omega (arith, digits.2, few)) in
    record {
      is_word = record { some = omega (arith, digits.2); each = digits_are_word (encode_lower (b ∷ bs)) digits.1 };
      says = rw (no_dash (encode_lower (b ∷ bs)) (omega (arith, digits.2)), some, within, back) refl;
    }

-- Addresses as words.
use Rattle.std.proofs.Common.{◌≡◌, ℕ, zero, suc, ◌+◌, ◌*◌, ◌/◌, ◌%◌, ◌<◌, ◌≤◌, ◌==◌, Bool, true, false, not, ◌&&◌, if◌then◌else◌, List, [], ◌∷◌, ◌++◌, length, Option, None, Some, refl, sym, ap, subst, ◌∙◌, arith, inl, inr}
use Rattle.std.specs.Prelude.{nat_le, nat_lt, option_map, slice_index, option_and_then}
use Rattle.std.specs.Char.{digit_value, is_digit}
use Rattle.std.specs.Fmt.{decimal}
use Rattle.std.specs.List.{list_all, onto_first, slice_split}
use Rattle.std.specs.Str.Parse.{AllDigits, digits_value}
use Rattle.std.proofs.lemmas.Bool.{and_parts, cases_Bool, lt-ltb}
use Rattle.std.proofs.lemmas.Fmt.{decimal_digit, decimal_is_IsNumeral, first_decimal}
use Rattle.std.proofs.lemmas.List.{length-append}
use Rattle.std.proofs.lemmas.Grind.{common_steps}
use Rattle.lb_wire.specs.declared.addr.Addr.{Addr}
use Rattle.lb_wire.specs.declared.addr.Addr.TheVariants.{V4, V6}
use Rattle.lb_masks.specs.Form.{cut_at}
use Rattle.lb_masks.specs.Number.{decimal_octet, has_leading_zero, number_up_to}
use Rattle.lb_masks.specs.Text.{addr_of_text, four, v4_of}
use Rattle.lb_command.specs.Line.{is_word_byte}
use Rattle.lb_command.specs.Values.{addr_of}
use Rattle.lb_typed.specs.Addrs.{TypesAddr, dotted, is_other}
use Rattle.lb_typed.specs.Words.{IsWord, Types}
use Rattle.lb_typed.proofs.Numbers.{decimal_word, number_back}

pub is_not : (mark b : ℕ) → is_other mark b ≡ true → (b == mark) ≡ false
is_not mark b is = elim (cases_Bool (b == mark)) [
  | inl e ↦ absurd (grind (arith, common_steps, is, e))
  | inr e ↦ e
]

-- a piece without the mark, before one and at the end
pub cut_piece : (mark : ℕ) (piece rest : List ℕ) → list_all (is_other mark) piece ≡ true → (mark == mark) ≡ true → cut_at mark (piece ++ mark ∷ rest) ≡ piece ∷ cut_at mark rest
cut_piece mark [] rest none is = rw is refl
cut_piece mark (b ∷ bs) rest none is =
    let parts = and_parts (is_other mark b) (list_all (is_other mark) bs) none in
    rw (is_not mark b parts.0, cut_piece mark bs rest parts.1 is) refl

pub cut_last : (mark : ℕ) (piece : List ℕ) → list_all (is_other mark) piece ≡ true → cut_at mark piece ≡ piece ∷ []
cut_last mark [] none = refl
cut_last mark (b ∷ bs) none =
    let parts = and_parts (is_other mark b) (list_all (is_other mark) bs) none in
    rw (is_not mark b parts.0, cut_last mark bs parts.1) refl

no_dot : (c : ℕ) → digit_value c < 10 → is_other 46 c ≡ true
no_dot c is = grind (arith, common_steps, is)

no_slash : (c : ℕ) → digit_value c < 10 → is_other 47 c ≡ true
no_slash c is = grind (arith, common_steps, is)

no_slashes : (digits : List ℕ) → AllDigits 10 digits → list_all (is_other 47) digits ≡ true
no_slashes [] each = refl
no_slashes (c ∷ cs) each = rw (no_slash c each.0, no_slashes cs each.1) refl

pub no_slash_in : (n : ℕ) → n < 256 → list_all (is_other 47) (decimal n) ≡ true
no_slash_in n small = no_slashes (decimal n) (decimal_is_IsNumeral n (omega (arith, small))).0.1

no_dots : (digits : List ℕ) → AllDigits 10 digits → list_all (is_other 46) digits ≡ true
no_dots [] each = refl
no_dots (c ∷ cs) each = rw (no_dot c each.0, no_dots cs each.1) refl

no_leading_zero : (octet : ℕ) → octet < 256 → has_leading_zero (decimal octet) ≡ false
no_leading_zero zero small = rw (decimal_digit 0 (omega arith)) refl
no_leading_zero (suc n) small =
    let first = first_decimal (suc n) (omega arith) (omega (arith, small)) in
    grind (arith, common_steps, first)

octet_back : (octet : ℕ) → octet < 256 → decimal_octet (decimal octet) ≡ Some octet
octet_back octet small = rw (no_leading_zero octet small) (number_back 255 octet (omega (arith, small)) (omega (arith, small)))

octet_cut : (octet : ℕ) (rest : List ℕ) → octet < 256 → cut_at 46 (decimal octet ++ 46 ∷ rest) ≡ decimal octet ∷ cut_at 46 rest
octet_cut octet rest small = cut_piece 46 (decimal octet) rest (no_dots (decimal octet) (decimal_is_IsNumeral octet (omega (arith, small))).0.1) refl

octet_last : (octet : ℕ) → octet < 256 → cut_at 46 (decimal octet) ≡ decimal octet ∷ []
octet_last octet small = cut_last 46 (decimal octet) (no_dots (decimal octet) (decimal_is_IsNumeral octet (omega (arith, small))).0.1)

four_cut : (a b c d : ℕ) → a < 256 → b < 256 → c < 256 → d < 256 → cut_at 46 (dotted (a ∷ b ∷ c ∷ d ∷ [])) ≡ decimal a ∷ decimal b ∷ decimal c ∷ decimal d ∷ []
four_cut a b c d small_a small_b small_c small_d =
    octet_cut a (dotted (b ∷ c ∷ d ∷ [])) small_a
    ∙ ap (λ (ps : List (List ℕ)). decimal a ∷ ps) (octet_cut b (dotted (c ∷ d ∷ [])) small_b
    ∙ ap (λ (ps : List (List ℕ)). decimal b ∷ ps) (octet_cut c (dotted (d ∷ [])) small_c
    ∙ ap (λ (ps : List (List ℕ)). decimal c ∷ ps) (octet_last d small_d)))

four_back : (a b c d : ℕ) → a < 256 → b < 256 → c < 256 → d < 256 → v4_of (dotted (a ∷ b ∷ c ∷ d ∷ [])) ≡ Some (V4 (a ∷ b ∷ c ∷ d ∷ []))
four_back a b c d small_a small_b small_c small_d =
    rw (four_cut a b c d small_a small_b small_c small_d, octet_back a small_a, octet_back b small_b, octet_back c small_c, octet_back d small_d) refl

pub all_after : (test : ℕ → Bool) (xs ys : List ℕ) → list_all test xs ≡ true → list_all test ys ≡ true → list_all test (xs ++ ys) ≡ true
all_after test [] ys first second = second
all_after test (x ∷ xs) ys first second =
    let parts = and_parts (test x) (list_all test xs) first in
    rw (parts.0, all_after test xs ys parts.1 second) refl

word_then : (octet : ℕ) (rest : List ℕ) → octet < 256 → list_all is_word_byte rest ≡ true → list_all is_word_byte (decimal octet ++ 46 ∷ rest) ≡ true
word_then octet rest small after = all_after is_word_byte (decimal octet) (46 ∷ rest) (decimal_word octet (omega (arith, small))).each after

slash_then : (octet : ℕ) (rest : List ℕ) → octet < 256 → list_all (is_other 47) rest ≡ true → list_all (is_other 47) (decimal octet ++ 46 ∷ rest) ≡ true
slash_then octet rest small after = all_after (is_other 47) (decimal octet) (46 ∷ rest) (no_slash_in octet small) after

-- an IPv4 address
pub v4 : (a b c d : ℕ) → a < 256 → b < 256 → c < 256 → d < 256 → TypesAddr (V4 (a ∷ b ∷ c ∷ d ∷ [])) (dotted (a ∷ b ∷ c ∷ d ∷ []))
v4 a b c d small_a small_b small_c small_d =
    let last = (decimal_word d (omega (arith, small_d))).each in
    let each : list_all is_word_byte (dotted (a ∷ b ∷ c ∷ d ∷ [])) ≡ true =
    word_then a (dotted (b ∷ c ∷ d ∷ [])) small_a (word_then b (dotted (c ∷ d ∷ [])) small_b (word_then c (dotted (d ∷ [])) small_c last)) in
    record {
      types =
          record {
            is_word = record { some = omega (arith, length-append (decimal a) (46 ∷ dotted (b ∷ c ∷ d ∷ []))); each = each };
            says = rw (each, four_back a b c d small_a small_b small_c small_d) refl;
          };
      no_slash = slash_then a (dotted (b ∷ c ∷ d ∷ [])) small_a (slash_then b (dotted (c ∷ d ∷ [])) small_b (slash_then c (dotted (d ∷ [])) small_c (no_slash_in d small_d)));
    }

-- IPv6 addresses as words.
use Rattle.std.proofs.Common.{◌≡◌, ℕ, zero, suc, ◌+◌, ◌*◌, ◌/◌, ◌%◌, ◌<◌, ◌≤◌, ◌==◌, Bool, true, false, not, ◌&&◌, if◌then◌else◌, List, [], ◌∷◌, ◌++◌, length, Option, None, Some, refl, sym, ap, subst, ◌∙◌, arith, inl, inr}
use Rattle.std.specs.Prelude.{nat_le, nat_lt, option_map, slice_index, option_and_then}
use Rattle.std.specs.Char.{digit_value, is_digit}
use Rattle.std.specs.Int.{to_be_bytes, w16}
use Rattle.std.specs.List.{list_all}
use Rattle.std.specs.Str.Parse.{digits_value}
use Rattle.std.proofs.lemmas.Bool.{and_parts, cases_Bool, lt-ltb, le-leb}
use Rattle.std.proofs.lemmas.List.{append-nil, length-append}
use Rattle.std.proofs.lemmas.Grind.{common_steps}
use Rattle.hex.specs.Hex.{IsBytes, encode_lower, encode_with, lower_digits}
use Rattle.lb_wire.specs.declared.addr.Addr.{Addr}
use Rattle.lb_wire.specs.declared.addr.Addr.TheVariants.{V4, V6}
use Rattle.lb_masks.specs.Form.{cut_at}
use Rattle.lb_masks.specs.Number.{decimal_octet, group, has_leading_zero, is_numeral, number_up_to}
use Rattle.lb_masks.specs.Text.{addr_of_text, gap_place, v4_of, v6_of}
use Rattle.lb_command.specs.Line.{is_word_byte}
use Rattle.lb_command.specs.Values.{addr_of}
use Rattle.lb_typed.specs.Addrs.{TypesAddr, dotted, grouped, is_other}
use Rattle.lb_typed.specs.Words.{IsWord, Types}
use Rattle.lb_typed.proofs.Addresses.{all_after, cut_last, cut_piece, is_not, v4}

-- a digit of hexadecimal text, by its value
record IsDigit (value digit : ℕ) : Type 0 where
  same : digit_value digit ≡ value
  passes : is_digit digit 16 ≡ true
  word : is_word_byte digit ≡ true
  no_colon : is_other 58 digit ≡ true
  no_dot : is_other 46 digit ≡ true
  no_slash : is_other 47 digit ≡ true

digit_of : (k : ℕ) → k < 16 → IsDigit k (slice_index lower_digits k)
digit_of zero small = record { same = refl; passes = refl; word = refl; no_colon = refl; no_dot = refl; no_slash = refl }
digit_of (suc zero) small = record { same = refl; passes = refl; word = refl; no_colon = refl; no_dot = refl; no_slash = refl }
digit_of (suc (suc zero)) small = record { same = refl; passes = refl; word = refl; no_colon = refl; no_dot = refl; no_slash = refl }
digit_of (suc (suc (suc zero))) small = record { same = refl; passes = refl; word = refl; no_colon = refl; no_dot = refl; no_slash = refl }
digit_of (suc (suc (suc (suc zero)))) small = record { same = refl; passes = refl; word = refl; no_colon = refl; no_dot = refl; no_slash = refl }
digit_of (suc (suc (suc (suc (suc zero))))) small = record { same = refl; passes = refl; word = refl; no_colon = refl; no_dot = refl; no_slash = refl }
digit_of (suc (suc (suc (suc (suc (suc zero)))))) small = record { same = refl; passes = refl; word = refl; no_colon = refl; no_dot = refl; no_slash = refl }
digit_of (suc (suc (suc (suc (suc (suc (suc zero))))))) small = record { same = refl; passes = refl; word = refl; no_colon = refl; no_dot = refl; no_slash = refl }
digit_of (suc (suc (suc (suc (suc (suc (suc (suc zero)))))))) small = record { same = refl; passes = refl; word = refl; no_colon = refl; no_dot = refl; no_slash = refl }
digit_of (suc (suc (suc (suc (suc (suc (suc (suc (suc zero))))))))) small = record { same = refl; passes = refl; word = refl; no_colon = refl; no_dot = refl; no_slash = refl }
digit_of (suc (suc (suc (suc (suc (suc (suc (suc (suc (suc zero)))))))))) small = record { same = refl; passes = refl; word = refl; no_colon = refl; no_dot = refl; no_slash = refl }
digit_of (suc (suc (suc (suc (suc (suc (suc (suc (suc (suc (suc zero))))))))))) small = record { same = refl; passes = refl; word = refl; no_colon = refl; no_dot = refl; no_slash = refl }
digit_of (suc (suc (suc (suc (suc (suc (suc (suc (suc (suc (suc (suc zero)))))))))))) small = record { same = refl; passes = refl; word = refl; no_colon = refl; no_dot = refl; no_slash = refl }
digit_of (suc (suc (suc (suc (suc (suc (suc (suc (suc (suc (suc (suc (suc zero))))))))))))) small = record { same = refl; passes = refl; word = refl; no_colon = refl; no_dot = refl; no_slash = refl }
digit_of (suc (suc (suc (suc (suc (suc (suc (suc (suc (suc (suc (suc (suc (suc zero)))))))))))))) small = record { same = refl; passes = refl; word = refl; no_colon = refl; no_dot = refl; no_slash = refl }
digit_of (suc (suc (suc (suc (suc (suc (suc (suc (suc (suc (suc (suc (suc (suc (suc zero))))))))))))))) small = record { same = refl; passes = refl; word = refl; no_colon = refl; no_dot = refl; no_slash = refl }
digit_of (suc (suc (suc (suc (suc (suc (suc (suc (suc (suc (suc (suc (suc (suc (suc (suc k)))))))))))))))) small = absurd (omega (arith, small))

-- the four digits of two octets
abbrev pair : ℕ → ℕ → List ℕ
pair high low = encode_lower (high ∷ low ∷ [])

record IsGroup (high low : ℕ) : Type 0 where
  back : group (pair high low) ≡ Some (high * 256 + low)
  word : list_all is_word_byte (pair high low) ≡ true
  no_colon : list_all (is_other 58) (pair high low) ≡ true
  no_dot : list_all (is_other 46) (pair high low) ≡ true
  no_slash : list_all (is_other 47) (pair high low) ≡ true

encoded : (high low : ℕ) → pair high low ≡ slice_index lower_digits (high / 16) ∷ slice_index lower_digits (high % 16) ∷ slice_index lower_digits (low / 16) ∷ slice_index lower_digits (low % 16) ∷ []
unfolding encode_with
encoded high low = refl

four_digits : (p q r s a b c d : ℕ) → IsDigit p a → IsDigit q b → IsDigit r c → IsDigit s d → p < 16 → q < 16 → r < 16 → s < 16 → group (a ∷ b ∷ c ∷ d ∷ []) ≡ Some ((((0 * 16 + p) * 16 + q) * 16 + r) * 16 + s)
four_digits p q r s a b c d first second third fourth small_p small_q small_r small_s =
    let fits : nat_le ((((0 * 16 + p) * 16 + q) * 16 + r) * 16 + s) 65535 ≡ true = le-leb ((((0 * 16 + p) * 16 + q) * 16 + r) * 16 + s) 65535 (omega (arith, small_p, small_q, small_r, small_s)) in
    rw (first.passes, second.passes, third.passes, fourth.passes, first.same, second.same, third.same, fourth.same, fits) refl

group_of : (high low : ℕ) → high < 256 → low < 256 → IsGroup high low
group_of high low small_high small_low =
    let a = digit_of (high / 16) (omega (arith, small_high)) in
    let b = digit_of (high % 16) (omega (arith, small_high)) in
    let c = digit_of (low / 16) (omega (arith, small_low)) in
    let d = digit_of (low % 16) (omega (arith, small_low)) in
    let value : (((0 * 16 + high / 16) * 16 + high % 16) * 16 + low / 16) * 16 + low % 16 ≡ high * 256 + low = omega (arith, small_high, small_low) in
    record {
      back = rw (encoded high low) (four_digits (high / 16) (high % 16) (low / 16) (low % 16) _ _ _ _ a b c d (omega (arith, small_high)) (omega (arith, small_high)) (omega (arith, small_low)) (omega (arith, small_low)) ∙ ap (λ (n : ℕ). Some n) value);
      word = rw (encoded high low, a.word, b.word, c.word, d.word) refl;
      no_colon = rw (encoded high low, a.no_colon, b.no_colon, c.no_colon, d.no_colon) refl;
      no_dot = rw (encoded high low, a.no_dot, b.no_dot, c.no_dot, d.no_dot) refl;
      no_slash = rw (encoded high low, a.no_slash, b.no_slash, c.no_slash, d.no_slash) refl;
    }

-- the octets of a group
octets_back : (high low : ℕ) → high < 256 → low < 256 → to_be_bytes w16 (high * 256 + low) ≡ high ∷ low ∷ []
octets_back high low small_high small_low =
    let first : (high * 256 + low) / 256 % 256 ≡ high = omega (arith, small_high, small_low) in
    let second : (high * 256 + low) % 256 ≡ low = omega (arith, small_high, small_low) in
    rw (first, second) refl

-- no two colons are next to each other
gap_last : (piece : List ℕ) → list_all (is_other 58) piece ≡ true → gap_place piece ≡ None
gap_last [] none = refl
gap_last (b ∷ bs) none =
    let parts = and_parts (is_other 58 b) (list_all (is_other 58) bs) none in
    rw (is_not 58 b parts.0, gap_last bs parts.1) refl

gap_more : (piece rest : List ℕ) → list_all (is_other 58) piece ≡ true → (slice_index rest 0 == 58) ≡ false → gap_place rest ≡ None → gap_place (piece ++ 58 ∷ rest) ≡ None
gap_more [] rest none starts after = rw (starts, after) refl
gap_more (b ∷ bs) rest none starts after =
    let parts = and_parts (is_other 58 b) (list_all (is_other 58) bs) none in
    rw (is_not 58 b parts.0, gap_more bs rest parts.1 starts after) refl

-- a text with a colon is no decimal number
colon_is_no_digit : (piece rest : List ℕ) → list_all (λ b. is_digit b 10) (piece ++ 58 ∷ rest) ≡ false
colon_is_no_digit [] rest = refl
colon_is_no_digit (b ∷ bs) rest =
    elim (cases_Bool (is_digit b 10)) [
      | inl e ↦ rw (e, colon_is_no_digit bs rest) refl
      | inr e ↦ rw e refl
    ]

no_octet : (text : List ℕ) → list_all (λ b. is_digit b 10) text ≡ false → decimal_octet text ≡ None
no_octet text none =
    elim (cases_Bool (has_leading_zero text)) [
      | inl zeros ↦ rw zeros refl
      | inr zeros ↦ elim (cases_Bool (nat_lt 0 (length text))) [
        | inl some ↦ rw (zeros, some, none) refl
        | inr some ↦ rw (zeros, some) refl
      ]
    ]

-- what is known of a text of groups
record AreGroups (text : List ℕ) (pieces : List (List ℕ)) : Type 0 where
  cut : cut_at 58 text ≡ pieces
  gap : gap_place text ≡ None
  starts : (slice_index text 0 == 58) ≡ false
  word : list_all is_word_byte text ≡ true
  no_dot : list_all (is_other 46) text ≡ true
  no_slash : list_all (is_other 47) text ≡ true

pair_starts : (high low : ℕ) (rest : List ℕ) → high < 256 → (slice_index (pair high low ++ rest) 0 == 58) ≡ false
pair_starts high low rest small =
    let digit = digit_of (high / 16) (omega (arith, small)) in
    rw (encoded high low) (is_not 58 (slice_index lower_digits (high / 16)) digit.no_colon)

last_group : (high low : ℕ) → high < 256 → low < 256 → AreGroups (pair high low) (pair high low ∷ [])
last_group high low small_high small_low =
    let g = group_of high low small_high small_low in
    record {
      cut = cut_last 58 (pair high low) g.no_colon;
      gap = gap_last (pair high low) g.no_colon;
      starts = subst (λ (text : List ℕ). (slice_index text 0 == 58) ≡ false) (append-nil (pair high low)) (pair_starts high low [] small_high);
      word = g.word;
      no_dot = g.no_dot;
      no_slash = g.no_slash;
    }

next_group : (high low : ℕ) (text : List ℕ) (pieces : List (List ℕ)) → high < 256 → low < 256 → AreGroups text pieces → AreGroups (pair high low ++ 58 ∷ text) (pair high low ∷ pieces)
next_group high low text pieces small_high small_low others =
    let g = group_of high low small_high small_low in
    record {
      cut = cut_piece 58 (pair high low) text g.no_colon refl ∙ ap (λ (ps : List (List ℕ)). pair high low ∷ ps) others.cut;
      gap = gap_more (pair high low) text g.no_colon others.starts others.gap;
      starts = pair_starts high low (58 ∷ text) small_high;
      word = all_after is_word_byte (pair high low) (58 ∷ text) g.word others.word;
      no_dot = all_after (is_other 46) (pair high low) (58 ∷ text) g.no_dot others.no_dot;
      no_slash = all_after (is_other 47) (pair high low) (58 ∷ text) g.no_slash others.no_slash;
    }

eight : (a1 a2 b1 b2 c1 c2 d1 d2 e1 e2 f1 f2 g1 g2 h1 h2 : ℕ) → a1 < 256 → a2 < 256 → b1 < 256 → b2 < 256 → c1 < 256 → c2 < 256 → d1 < 256 → d2 < 256 → e1 < 256 → e2 < 256 → f1 < 256 → f2 < 256 → g1 < 256 → g2 < 256 → h1 < 256 → h2 < 256 → AreGroups (grouped (a1 ∷ a2 ∷ b1 ∷ b2 ∷ c1 ∷ c2 ∷ d1 ∷ d2 ∷ e1 ∷ e2 ∷ f1 ∷ f2 ∷ g1 ∷ g2 ∷ h1 ∷ h2 ∷ [])) (pair a1 a2 ∷ pair b1 b2 ∷ pair c1 c2 ∷ pair d1 d2 ∷ pair e1 e2 ∷ pair f1 f2 ∷ pair g1 g2 ∷ pair h1 h2 ∷ [])
eight a1 a2 b1 b2 c1 c2 d1 d2 e1 e2 f1 f2 g1 g2 h1 h2 s_a1 s_a2 s_b1 s_b2 s_c1 s_c2 s_d1 s_d2 s_e1 s_e2 s_f1 s_f2 s_g1 s_g2 s_h1 s_h2 =
    next_group a1 a2 _ _ s_a1 s_a2 (next_group b1 b2 _ _ s_b1 s_b2 (next_group c1 c2 _ _ s_c1 s_c2 (next_group d1 d2 _ _ s_d1 s_d2 (next_group e1 e2 _ _ s_e1 s_e2 (next_group f1 f2 _ _ s_f1 s_f2 (next_group g1 g2 _ _ s_g1 s_g2 (last_group h1 h2 s_h1 s_h2)))))))

-- an IPv6 address, with all its groups
pub v6 : (a1 a2 b1 b2 c1 c2 d1 d2 e1 e2 f1 f2 g1 g2 h1 h2 : ℕ) → a1 < 256 → a2 < 256 → b1 < 256 → b2 < 256 → c1 < 256 → c2 < 256 → d1 < 256 → d2 < 256 → e1 < 256 → e2 < 256 → f1 < 256 → f2 < 256 → g1 < 256 → g2 < 256 → h1 < 256 → h2 < 256 → TypesAddr (V6 (a1 ∷ a2 ∷ b1 ∷ b2 ∷ c1 ∷ c2 ∷ d1 ∷ d2 ∷ e1 ∷ e2 ∷ f1 ∷ f2 ∷ g1 ∷ g2 ∷ h1 ∷ h2 ∷ [])) (grouped (a1 ∷ a2 ∷ b1 ∷ b2 ∷ c1 ∷ c2 ∷ d1 ∷ d2 ∷ e1 ∷ e2 ∷ f1 ∷ f2 ∷ g1 ∷ g2 ∷ h1 ∷ h2 ∷ []))
v6 a1 a2 b1 b2 c1 c2 d1 d2 e1 e2 f1 f2 g1 g2 h1 h2 s_a1 s_a2 s_b1 s_b2 s_c1 s_c2 s_d1 s_d2 s_e1 s_e2 s_f1 s_f2 s_g1 s_g2 s_h1 s_h2 =
    let all = eight a1 a2 b1 b2 c1 c2 d1 d2 e1 e2 f1 f2 g1 g2 h1 h2 s_a1 s_a2 s_b1 s_b2 s_c1 s_c2 s_d1 s_d2 s_e1 s_e2 s_f1 s_f2 s_g1 s_g2 s_h1 s_h2 in
    let no_v4 : v4_of (grouped (a1 ∷ a2 ∷ b1 ∷ b2 ∷ c1 ∷ c2 ∷ d1 ∷ d2 ∷ e1 ∷ e2 ∷ f1 ∷ f2 ∷ g1 ∷ g2 ∷ h1 ∷ h2 ∷ [])) ≡ None = rw (cut_last 46 (grouped (a1 ∷ a2 ∷ b1 ∷ b2 ∷ c1 ∷ c2 ∷ d1 ∷ d2 ∷ e1 ∷ e2 ∷ f1 ∷ f2 ∷ g1 ∷ g2 ∷ h1 ∷ h2 ∷ [])) all.no_dot, no_octet (grouped (a1 ∷ a2 ∷ b1 ∷ b2 ∷ c1 ∷ c2 ∷ d1 ∷ d2 ∷ e1 ∷ e2 ∷ f1 ∷ f2 ∷ g1 ∷ g2 ∷ h1 ∷ h2 ∷ [])) (colon_is_no_digit (pair a1 a2) (grouped (b1 ∷ b2 ∷ c1 ∷ c2 ∷ d1 ∷ d2 ∷ e1 ∷ e2 ∷ f1 ∷ f2 ∷ g1 ∷ g2 ∷ h1 ∷ h2 ∷ [])))) refl in
    let is_v6 : v6_of (grouped (a1 ∷ a2 ∷ b1 ∷ b2 ∷ c1 ∷ c2 ∷ d1 ∷ d2 ∷ e1 ∷ e2 ∷ f1 ∷ f2 ∷ g1 ∷ g2 ∷ h1 ∷ h2 ∷ [])) ≡ Some (V6 (a1 ∷ a2 ∷ b1 ∷ b2 ∷ c1 ∷ c2 ∷ d1 ∷ d2 ∷ e1 ∷ e2 ∷ f1 ∷ f2 ∷ g1 ∷ g2 ∷ h1 ∷ h2 ∷ [])) =
    rw (all.gap, all.cut, (group_of a1 a2 s_a1 s_a2).back, octets_back a1 a2 s_a1 s_a2, (group_of b1 b2 s_b1 s_b2).back, octets_back b1 b2 s_b1 s_b2, (group_of c1 c2 s_c1 s_c2).back, octets_back c1 c2 s_c1 s_c2, (group_of d1 d2 s_d1 s_d2).back, octets_back d1 d2 s_d1 s_d2, (group_of e1 e2 s_e1 s_e2).back, octets_back e1 e2 s_e1 s_e2, (group_of f1 f2 s_f1 s_f2).back, octets_back f1 f2 s_f1 s_f2, (group_of g1 g2 s_g1 s_g2).back, octets_back g1 g2 s_g1 s_g2, (group_of h1 h2 s_h1 s_h2).back, octets_back h1 h2 s_h1 s_h2) refl in
    record { types = record { is_word = record { some = omega (arith, length-append (pair a1 a2) (58 ∷ grouped (b1 ∷ b2 ∷ c1 ∷ c2 ∷ d1 ∷ d2 ∷ e1 ∷ e2 ∷ f1 ∷ f2 ∷ g1 ∷ g2 ∷ h1 ∷ h2 ∷ []))); each = all.word }; says = rw (all.word, no_v4, is_v6) refl }; no_slash = all.no_slash }

-- the same of octets in a list
pub v4_of_list : (octets : List ℕ) → length octets ≡ 4 → IsBytes octets → TypesAddr (V4 octets) (dotted octets)
v4_of_list (a ∷ b ∷ c ∷ d ∷ []) len each = v4 a b c d (each 0) (each 1) (each 2) (each 3)
v4_of_list [] len each = absurd (omega (arith, len))
v4_of_list (a ∷ []) len each = absurd (omega (arith, len))
v4_of_list (a ∷ b ∷ []) len each = absurd (omega (arith, len))
v4_of_list (a ∷ b ∷ c ∷ []) len each = absurd (omega (arith, len))
v4_of_list (a ∷ b ∷ c ∷ d ∷ next ∷ others) len each = absurd (omega (arith, len))

pub v6_of_list : (octets : List ℕ) → length octets ≡ 16 → IsBytes octets → TypesAddr (V6 octets) (grouped octets)
v6_of_list (a1 ∷ a2 ∷ b1 ∷ b2 ∷ c1 ∷ c2 ∷ d1 ∷ d2 ∷ e1 ∷ e2 ∷ f1 ∷ f2 ∷ g1 ∷ g2 ∷ h1 ∷ h2 ∷ []) len each =
    v6 a1 a2 b1 b2 c1 c2 d1 d2 e1 e2 f1 f2 g1 g2 h1 h2 (each 0) (each 1) (each 2) (each 3) (each 4) (each 5) (each 6) (each 7) (each 8) (each 9) (each 10) (each 11) (each 12) (each 13) (each 14) (each 15)
v6_of_list [] len each = absurd (omega (arith, len))
v6_of_list (a1 ∷ []) len each = absurd (omega (arith, len))
v6_of_list (a1 ∷ a2 ∷ []) len each = absurd (omega (arith, len))
v6_of_list (a1 ∷ a2 ∷ b1 ∷ []) len each = absurd (omega (arith, len))
v6_of_list (a1 ∷ a2 ∷ b1 ∷ b2 ∷ []) len each = absurd (omega (arith, len))
v6_of_list (a1 ∷ a2 ∷ b1 ∷ b2 ∷ c1 ∷ []) len each = absurd (omega (arith, len))
v6_of_list (a1 ∷ a2 ∷ b1 ∷ b2 ∷ c1 ∷ c2 ∷ []) len each = absurd (omega (arith, len))
v6_of_list (a1 ∷ a2 ∷ b1 ∷ b2 ∷ c1 ∷ c2 ∷ d1 ∷ []) len each = absurd (omega (arith, len))
v6_of_list (a1 ∷ a2 ∷ b1 ∷ b2 ∷ c1 ∷ c2 ∷ d1 ∷ d2 ∷ []) len each = absurd (omega (arith, len))
v6_of_list (a1 ∷ a2 ∷ b1 ∷ b2 ∷ c1 ∷ c2 ∷ d1 ∷ d2 ∷ e1 ∷ []) len each = absurd (omega (arith, len))
v6_of_list (a1 ∷ a2 ∷ b1 ∷ b2 ∷ c1 ∷ c2 ∷ d1 ∷ d2 ∷ e1 ∷ e2 ∷ []) len each = absurd (omega (arith, len))
v6_of_list (a1 ∷ a2 ∷ b1 ∷ b2 ∷ c1 ∷ c2 ∷ d1 ∷ d2 ∷ e1 ∷ e2 ∷ f1 ∷ []) len each = absurd (omega (arith, len))
v6_of_list (a1 ∷ a2 ∷ b1 ∷ b2 ∷ c1 ∷ c2 ∷ d1 ∷ d2 ∷ e1 ∷ e2 ∷ f1 ∷ f2 ∷ []) len each = absurd (omega (arith, len))
v6_of_list (a1 ∷ a2 ∷ b1 ∷ b2 ∷ c1 ∷ c2 ∷ d1 ∷ d2 ∷ e1 ∷ e2 ∷ f1 ∷ f2 ∷ g1 ∷ []) len each = absurd (omega (arith, len))
v6_of_list (a1 ∷ a2 ∷ b1 ∷ b2 ∷ c1 ∷ c2 ∷ d1 ∷ d2 ∷ e1 ∷ e2 ∷ f1 ∷ f2 ∷ g1 ∷ g2 ∷ []) len each = absurd (omega (arith, len))
v6_of_list (a1 ∷ a2 ∷ b1 ∷ b2 ∷ c1 ∷ c2 ∷ d1 ∷ d2 ∷ e1 ∷ e2 ∷ f1 ∷ f2 ∷ g1 ∷ g2 ∷ h1 ∷ []) len each = absurd (omega (arith, len))
v6_of_list (a1 ∷ a2 ∷ b1 ∷ b2 ∷ c1 ∷ c2 ∷ d1 ∷ d2 ∷ e1 ∷ e2 ∷ f1 ∷ f2 ∷ g1 ∷ g2 ∷ h1 ∷ h2 ∷ next ∷ others) len each = absurd (omega (arith, len))

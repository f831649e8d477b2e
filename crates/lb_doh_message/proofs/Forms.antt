-- Decoding of names and values, an octet at a time.
use Rattle.std.proofs.Common.{◌≡◌, ◌<◌, ◌≤◌, ◌+◌, ◌*◌, ◌==◌, ℕ, List, [], ◌∷◌, length, map, get_or, drop, refl, inl, inr, arith}
use Rattle.std.proofs.lemmas.Bool.{cases_Bool, eqb-true}
use Rattle.std.specs.Char.{digit_value}
use Rattle.form_urlencoded.specs.Form.{decode, plus_to_space}
use Rattle.percent_encoding.specs.Percent.{KeepsFirst}
use Rattle.percent_encoding.proofs.PercentLemmas.{KeepsFirst_from_no_escape, percent_decode_escape}

-- a plus is not 37, and becomes none
percent_before : (b : ℕ) → plus_to_space b ≡ 37 → b ≡ 37
percent_before b is = elim (cases_Bool (b == 43)) [
  | inl plus ↦ cc (rw plus at is)
  | inr other ↦ rw other at is
]

-- 37 stays
percent_after : (b : ℕ) → b ≡ 37 → plus_to_space b ≡ 37
percent_after b is = rw is refl

-- what is a digit was one
digit_before : (b : ℕ) → digit_value (plus_to_space b) < 16 → digit_value b < 16
digit_before b is = elim (cases_Bool (b == 43)) [
  | inl plus ↦ absurd (omega (arith, rw plus at is))
  | inr other ↦ rw other at is
]

-- a digit stays
digit_stays : (b : ℕ) → digit_value b < 16 → plus_to_space b ≡ b
digit_stays b is = elim (cases_Bool (b == 43)) [
  | inl plus ↦ absurd (omega (arith, rw (eqb-true b 43 plus) at is))
  | inr other ↦ rw other refl
]

-- what begins with no escape keeps its first octet, but for a plus
pub keeps_first : (raw : List ℕ) → (3 ≤ length raw → get_or raw 0 0 ≡ 37 → digit_value (get_or raw 1 0) < 16 → digit_value (get_or raw 2 0) < 16 → ⊥) → KeepsFirst (map plus_to_space raw)
keeps_first [] never = tt
keeps_first (b ∷ []) never = KeepsFirst_from_no_escape (plus_to_space b ∷ []) (λ long percent high low. omega arith)
keeps_first (b ∷ c ∷ []) never = KeepsFirst_from_no_escape (plus_to_space b ∷ plus_to_space c ∷ []) (λ long percent high low. omega arith)
keeps_first (b ∷ high ∷ low ∷ rest) never =
    KeepsFirst_from_no_escape (plus_to_space b ∷ plus_to_space high ∷ plus_to_space low ∷ map plus_to_space rest)
    (λ long percent is_high is_low. never (omega arith) (percent_before b percent) (digit_before high is_high) (digit_before low is_low))

-- an escape stands for its octet
pub decode_escape : (raw : List ℕ) → 3 ≤ length raw → get_or raw 0 0 ≡ 37 → digit_value (get_or raw 1 0) < 16 → digit_value (get_or raw 2 0) < 16
    → decode raw ≡ (16 * digit_value (get_or raw 1 0) + digit_value (get_or raw 2 0)) ∷ decode (drop 3 raw)
decode_escape [] long percent is_high is_low = absurd (omega arith)
decode_escape (b ∷ []) long percent is_high is_low = absurd (omega arith)
decode_escape (b ∷ c ∷ []) long percent is_high is_low = absurd (omega arith)
decode_escape (b ∷ high ∷ low ∷ rest) long percent is_high is_low =
    rw (digit_stays high is_high, digit_stays low is_low) (percent_decode_escape (plus_to_space b) high low (map plus_to_space rest) (percent_after b percent) is_high is_low)

-- Sets of marks in words of 64 bits, and the sums that marks are made of.
use Rattle.std.proofs.Common.{◌≡◌, ℕ, zero, suc, ◌+◌, ◌*◌, ◌/◌, ◌%◌, ◌^◌, ◌<◌, ◌≤◌, max, List, [], ◌∷◌, length, get_or, set, drop, refl, sym, ap, inl, inr, ◌∙◌, arith}
use Rattle.std.specs.Int.{bit_at, w64}
use Rattle.std.specs.Int.Bits.{bit_or}
use Rattle.std.proofs.lemmas.Bool.{cases_eq}
use Rattle.std.proofs.lemmas.List.{drop_more, get_or-set_other, get_or-set_same}
use Rattle.std.proofs.lemmas.Nat.Bits.{bit_at-lt, bit_at_or, bit_at_set_same}
use Rattle.lb_masks.specs.Marks.{HasMark, weighed}

-- the words with the bit of one mark set
abbrev with_bit : List ℕ → ℕ → ℕ → List ℕ
with_bit words place bit = set words place (bit_or (get_or words place 0) (1 * 2 ^ bit % 2 ^ 64))

word_same : (words : List ℕ) (place i bit : ℕ) → place < length words → i ≡ place → get_or (with_bit words place bit) i 0 ≡ bit_or (get_or words place 0) (1 * 2 ^ bit % 2 ^ 64)
word_same words place i bit lt is = ap (λ (j : ℕ). get_or (with_bit words place bit) j 0) is ∙ get_or-set_same words place (bit_or (get_or words place 0) (1 * 2 ^ bit % 2 ^ 64)) 0 lt

pub with_own : (words : List ℕ) (place mark : ℕ) → place < length words → mark / 64 ≡ place → HasMark (with_bit words place (mark % 64)) mark
with_own words place mark lt is =
    ap (λ (n : ℕ). bit_at n (mark % 64)) (word_same words place (mark / 64) (mark % 64) lt is) ∙ bit_at_set_same w64 (get_or words place 0) (mark % 64) (omega arith)

max_one : (b : ℕ) → b < 2 → max 1 b ≡ 1
max_one zero lt = refl
max_one (suc zero) lt = refl
max_one (suc (suc b)) lt = absurd (omega (arith, lt))

pub with_kept : (words : List ℕ) (place bit m : ℕ) → place < length words → HasMark words m → HasMark (with_bit words place bit) m
with_kept words place bit m lt has =
    let put : ℕ = 1 * 2 ^ bit % 2 ^ 64 in
    elim (cases_eq (m / 64) place) [
      | inl same ↦
          let was : bit_at (get_or words place 0) (m % 64) ≡ 1 = ap (λ (i : ℕ). bit_at (get_or words i 0) (m % 64)) (sym same) ∙ has in
          ap (λ (n : ℕ). bit_at n (m % 64)) (word_same words place (m / 64) bit lt same) ∙ bit_at_or (get_or words place 0) put (m % 64)
          ∙ ap (λ (b : ℕ). max b (bit_at put (m % 64))) was ∙ max_one (bit_at put (m % 64)) (bit_at-lt put (m % 64))
      | inr other ↦ ap (λ (n : ℕ). bit_at n (m % 64)) (get_or-set_other words place (m / 64) (bit_or (get_or words place 0) put) 0 other) ∙ has
    ]

-- one octet more is weighed
pub weighed_more : (octets ws : List ℕ) (i sum next : ℕ) → i < length octets → i < length ws → next ≡ (sum + get_or octets i 0 * get_or ws i 0 % 2 ^ 64) % 2 ^ 64 → weighed next (drop (i + 1) octets) (drop (i + 1) ws) ≡ weighed sum (drop i octets) (drop i ws)
weighed_more octets ws i sum next lt within is =
    rw (drop_more octets i 0 lt, drop_more ws i 0 within) (ap (λ (n : ℕ). weighed n (drop (i + 1) octets) (drop (i + 1) ws)) is)

pub weighed_all : (octets ws : List ℕ) (i sum : ℕ) → length octets ≤ i → weighed sum (drop i octets) ws ≡ sum
weighed_all [] ws zero sum le = refl
weighed_all [] ws (suc i) sum le = refl
weighed_all (x ∷ octets) ws zero sum le = absurd (omega (arith, le))
weighed_all (x ∷ octets) ws (suc i) sum le = weighed_all octets ws i sum (omega (arith, le))

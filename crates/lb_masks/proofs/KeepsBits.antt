-- The bits of octets, and what is kept of them.
use Rattle.std.proofs.Common.{◌≡◌, set, Bool, true, false, not, ℕ, zero, suc, ◌+◌, ◌-◌, ◌*◌, ◌/◌, ◌%◌, ◌^◌, ◌<◌, ◌≤◌, List, [], ◌∷◌, ◌++◌, length, get_or, take, drop, replicate, inl, inr, refl, sym, ◌∙◌, ap, arith}
use Rattle.std.proofs.lemmas.Bool.{cases_lt, cases_Bool}
use Rattle.std.proofs.lemmas.List.{get_or-take, ext_get_or, length-take-le, drop-replicate, set_at}
use Rattle.std.proofs.lemmas.Nat.{shr_split, mod_below, pow_pos}
use Rattle.std.proofs.lemmas.Nat.Bits.{bit_at_cat_low, bit_at_cat_high, bit_at-zero, same_from_bits_below}
use Rattle.std.proofs.lemmas.Slice.Eq.{bytes_eq-Decides}
use Rattle.std.specs.Str.{bytes_eq}
use Rattle.std.specs.Int.{bit_at}
use Rattle.lb_masks.specs.Bits.{bit_of, SameBits, KeepsBits, kept_octet, kept_octets}

-- the bits of an octet that are kept
kept_bit : (count octet i : ℕ) → 8 - count ≤ i → bit_at (kept_octet count octet) i ≡ bit_at octet i
kept_bit count octet i high =
    let past = 8 - count in
    let new : bit_at (octet / 2 ^ past * 2 ^ past + 0) i ≡ bit_at (octet / 2 ^ past) (i - past) = bit_at_cat_high (octet / 2 ^ past) past 0 i (pow_pos past) high in
    let old : bit_at (octet / 2 ^ past * 2 ^ past + octet % 2 ^ past) i ≡ bit_at (octet / 2 ^ past) (i - past) =
    bit_at_cat_high (octet / 2 ^ past) past (octet % 2 ^ past) i (mod_below octet (2 ^ past) (pow_pos past)) high in
    let plain : octet / 2 ^ past * 2 ^ past + 0 ≡ octet / 2 ^ past * 2 ^ past = omega arith in
    ap (λ (n : ℕ). bit_at n i) (sym plain) ∙ new ∙ sym old ∙ ap (λ (n : ℕ). bit_at n i) (shr_split octet past)

-- and those that are cleared
cleared_bit : (count octet i : ℕ) → i < 8 - count → bit_at (kept_octet count octet) i ≡ 0
cleared_bit count octet i low =
    let past = 8 - count in
    let plain : octet / 2 ^ past * 2 ^ past + 0 ≡ octet / 2 ^ past * 2 ^ past = omega arith in
    ap (λ (n : ℕ). bit_at n i) (sym plain) ∙ bit_at_cat_low (octet / 2 ^ past) past 0 i low ∙ bit_at-zero i

-- of zero nothing is left
kept_zero : (count : ℕ) → kept_octet count 0 ≡ 0
kept_zero count = omega (arith, shr_split 0 (8 - count))

kept_all : (count octet : ℕ) → 8 ≤ count → kept_octet count octet ≡ octet
kept_all count octet le =
    let none : 8 - count ≡ 0 = omega arith in
    let whole : octet / 1 * 1 ≡ octet = omega arith in
    ap (λ (past : ℕ). octet / 2 ^ past * 2 ^ past) none ∙ whole

-- each octet keeps what is left for it
kept_at : (octets : List ℕ) (count i : ℕ) → get_or (kept_octets count octets) i 0 ≡ kept_octet (count - 8 * i) (get_or octets i 0)
kept_at [] count i = sym (kept_zero (count - 8 * i))
kept_at (octet ∷ octets) count zero =
    let same : count ≡ count - 0 = omega arith in
    ap (λ (n : ℕ). kept_octet n octet) same
kept_at (octet ∷ octets) count (suc i) =
    let same : count - 8 - 8 * i ≡ count - 8 * suc i = omega arith in
    kept_at octets (count - 8) i ∙ ap (λ (n : ℕ). kept_octet n (get_or octets i 0)) same

pub keeps_bits : (count : ℕ) (octets : List ℕ) → KeepsBits count octets (kept_octets count octets)
keeps_bits count octets = record {
  kept = λ k lt. sym (ap (λ (n : ℕ). bit_at n (7 - k % 8)) (kept_at octets count (k / 8)) ∙ kept_bit (count - 8 * (k / 8)) (get_or octets (k / 8) 0) (7 - k % 8) (omega arith));
  cleared = λ k le. ap (λ (n : ℕ). bit_at n (7 - k % 8)) (kept_at octets count (k / 8)) ∙ cleared_bit (count - 8 * (k / 8)) (get_or octets (k / 8) 0) (7 - k % 8) (omega arith);
}

-- where no bit is kept, zeros are left
kept_none : (octets : List ℕ) → ((i : ℕ) → get_or octets i 0 < 256) → kept_octets 0 octets ≡ replicate (length octets) 0
kept_none [] small = refl
kept_none (octet ∷ octets) small =
    let first : kept_octet 0 octet ≡ 0 = omega (arith, small 0) in
    ap (λ (n : ℕ). n ∷ kept_octets 0 octets) first ∙ ap (λ (ns : List ℕ). 0 ∷ ns) (kept_none octets (λ i. small (suc i)))

-- where all bits are kept, nothing changes
pub kept_whole : (octets : List ℕ) (count : ℕ) → 8 * length octets ≤ count → kept_octets count octets ≡ octets
kept_whole [] count le = refl
kept_whole (octet ∷ octets) count le =
    ap (λ (n : ℕ). n ∷ kept_octets (count - 8) octets) (kept_all count octet (omega arith)) ∙ ap (λ (ns : List ℕ). octet ∷ ns) (kept_whole octets (count - 8) (omega arith))

-- whole octets stay, one keeps the rest, and zeros follow
pub kept_split : (octets : List ℕ) (count whole rest : ℕ) → count ≡ 8 * whole + rest → rest < 8 → whole < length octets → ((i : ℕ) → get_or octets i 0 < 256) → kept_octets count octets ≡ take whole octets ++ kept_octet rest (get_or octets whole 0) ∷ replicate (length octets - (whole + 1)) 0
kept_split [] count whole rest is few within small = absurd (omega arith)
kept_split (octet ∷ octets) count zero rest is few within small =
    let all : count ≡ rest = omega arith in
    let none : count - 8 ≡ 0 = omega arith in
    let left : length octets ≡ length (octet ∷ octets) - (0 + 1) = omega arith in
    ap (λ (n : ℕ). kept_octet n octet ∷ kept_octets (count - 8) octets) all
    ∙ ap (λ (n : ℕ). kept_octet rest octet ∷ kept_octets n octets) none
    ∙ ap (λ (ns : List ℕ). kept_octet rest octet ∷ ns) (kept_none octets (λ i. small (suc i)))
    ∙ ap (λ (n : ℕ). kept_octet rest octet ∷ replicate n 0) left
kept_split (octet ∷ octets) count (suc whole) rest is few within small =
    let left : length octets - (whole + 1) ≡ length (octet ∷ octets) - (suc whole + 1) = omega arith in
    ap (λ (n : ℕ). n ∷ kept_octets (count - 8) octets) (kept_all count octet (omega arith))
    ∙ ap (λ (ns : List ℕ). octet ∷ ns) (kept_split octets (count - 8) whole rest (omega arith) few (omega arith) (λ i. small (suc i)))
    ∙ ap (λ (n : ℕ). octet ∷ (take whole octets ++ kept_octet rest (get_or octets whole 0) ∷ replicate n 0)) left

-- octets with the same first bits keep the same
kept_same : (count a b : ℕ) → count ≤ 8 → a < 256 → b < 256 → ((j : ℕ) → j < count → bit_at a (7 - j) ≡ bit_at b (7 - j)) → kept_octet count a ≡ kept_octet count b
kept_same count a b le small_a small_b same =
    same_from_bits_below 8 (kept_octet count a) (kept_octet count b) (omega (arith, shr_split a (8 - count))) (omega (arith, shr_split b (8 - count)))
    (λ i lt. elim (cases_lt i (8 - count)) [
      | inl low ↦ cleared_bit count a i low ∙ sym (cleared_bit count b i low)
      | inr high ↦
          let place : 7 - (7 - i) ≡ i = omega arith in
          let here : bit_at a i ≡ bit_at b i = ap (λ (n : ℕ). bit_at a n) (sym place) ∙ same (7 - i) (omega arith) ∙ ap (λ (n : ℕ). bit_at b n) place in
          kept_bit count a i high ∙ here ∙ sym (kept_bit count b i high)
    ])

-- the bit at a place of an octet
bit_there : (octets : List ℕ) (i j : ℕ) → j < 8 → bit_of octets (8 * i + j) ≡ bit_at (get_or octets i 0) (7 - j)
bit_there octets i j lt =
    let octet : (8 * i + j) / 8 ≡ i = omega arith in
    let place : (8 * i + j) % 8 ≡ j = omega arith in
    ap (λ (n : ℕ). bit_at (get_or octets n 0) (7 - (8 * i + j) % 8)) octet ∙ ap (λ (n : ℕ). bit_at (get_or octets i 0) (7 - n)) place

-- octets that agree in their first bits keep the same there
pub kept_there : (count i part : ℕ) (a b : List ℕ) → part ≤ 8 → 8 * i + part ≤ count → ((i : ℕ) → get_or a i 0 < 256) → ((i : ℕ) → get_or b i 0 < 256) → SameBits count a b → kept_octet part (get_or a i 0) ≡ kept_octet part (get_or b i 0)
kept_there count i part a b le within small_a small_b same =
    kept_same part (get_or a i 0) (get_or b i 0) le (small_a i) (small_b i)
    (λ j lt. sym (bit_there a i j (omega arith)) ∙ same (8 * i + j) (omega arith) ∙ bit_there b i j (omega arith))

-- so whole octets are equal
pub front_same : (count whole : ℕ) (a b : List ℕ) → 8 * whole ≤ count → whole ≤ length a → whole ≤ length b → ((i : ℕ) → get_or a i 0 < 256) → ((i : ℕ) → get_or b i 0 < 256) → SameBits count a b → take whole a ≡ take whole b
front_same count whole a b within fits_a fits_b small_a small_b same =
    let lens : length (take whole a) ≡ length (take whole b) = length-take-le whole a fits_a ∙ sym (length-take-le whole b fits_b) in
    ext_get_or 0 (take whole a) (take whole b) lens
    (λ i lt.
    let below : i < whole = omega (arith, length-take-le whole a fits_a) in
    get_or-take whole a i 0 below
    ∙ sym (kept_all 8 (get_or a i 0) (omega arith))
    ∙ kept_there count i 8 a b (omega arith) (omega arith) small_a small_b same
    ∙ kept_all 8 (get_or b i 0) (omega arith)
    ∙ sym (get_or-take whole b i 0 below))

-- equal whole octets, and an equal rest of the next, make equal bits
pub bits_same : (count whole rest : ℕ) (a b : List ℕ) → count ≡ 8 * whole + rest → rest < 8 → take whole a ≡ take whole b → (0 < rest → kept_octet rest (get_or a whole 0) ≡ kept_octet rest (get_or b whole 0)) → SameBits count a b
bits_same count whole rest a b is few front last k lt =
    elim (cases_lt (k / 8) whole) [
      | inl below ↦
          let octet : get_or a (k / 8) 0 ≡ get_or b (k / 8) 0 =
          sym (get_or-take whole a (k / 8) 0 below) ∙ ap (λ (ns : List ℕ). get_or ns (k / 8) 0) front ∙ get_or-take whole b (k / 8) 0 below in
          ap (λ (n : ℕ). bit_at n (7 - k % 8)) octet
      | inr past ↦
          let there : k / 8 ≡ whole = omega arith in
          let high : 8 - rest ≤ 7 - k % 8 = omega arith in
          let octet : kept_octet rest (get_or a (k / 8) 0) ≡ kept_octet rest (get_or b (k / 8) 0) =
          ap (λ (n : ℕ). kept_octet rest (get_or a n 0)) there ∙ last (omega arith) ∙ ap (λ (n : ℕ). kept_octet rest (get_or b n 0)) (sym there) in
          sym (kept_bit rest (get_or a (k / 8) 0) (7 - k % 8) high) ∙ ap (λ (n : ℕ). bit_at n (7 - k % 8)) octet ∙ kept_bit rest (get_or b (k / 8) 0) (7 - k % 8) high
    ]

-- what `!=` says of two slices
pub slices_differ : (xs ys : List ℕ) (r : Bool) → r ≡ not (bytes_eq xs ys) → r ≡ true → xs ≡ ys → ⊥
slices_differ xs ys r is holds same =
    let equal : r ≡ false = is ∙ ap not ((bytes_eq-Decides xs ys).1 same) in
    absurd (cc)

pub slices_equal : (xs ys : List ℕ) (r : Bool) → r ≡ not (bytes_eq xs ys) → r ≡ false → xs ≡ ys
slices_equal xs ys r is fails =
    elim (cases_Bool (bytes_eq xs ys)) [
      | inl equal ↦ (bytes_eq-Decides xs ys).0 equal
      | inr other ↦
          let differ : r ≡ true = is ∙ ap not other in
          absurd (cc)
    ]

-- what is put over zeros: whole octets, and one that keeps the rest
pub put_kept : (octets front zeros : List ℕ) (count octet : ℕ) → count / 8 < length octets → ((i : ℕ) → get_or octets i 0 < 256) → front ≡ take (count / 8) octets → zeros ≡ replicate (length octets) 0 → octet ≡ kept_octet (count % 8) (get_or octets (count / 8) 0) → set (front ++ drop (count / 8) zeros) (count / 8) octet ≡ kept_octets count octets
put_kept octets front zeros count octet within small front_is zeros_is octet_is =
    let whole : ℕ = count / 8 in
    let past : ℕ = length octets - (whole + 1) in
    let more : length octets - whole ≡ suc past = omega arith in
    let after : drop whole zeros ≡ 0 ∷ replicate past 0 =
    ap (λ (ns : List ℕ). drop whole ns) zeros_is ∙ drop-replicate whole (length octets) 0 ∙ ap (λ (n : ℕ). replicate n 0) more in
    let ahead : length front ≡ whole = ap length front_is ∙ length-take-le whole octets (omega arith) in
    ap (λ (ns : List ℕ). set (front ++ ns) whole octet) after
    ∙ set_at front 0 (replicate past 0) octet whole ahead
    ∙ ap (λ (ns : List ℕ). ns ++ octet ∷ replicate past 0) front_is
    ∙ ap (λ (n : ℕ). take whole octets ++ n ∷ replicate past 0) octet_is
    ∙ sym (kept_split octets count whole (count % 8) (omega arith) (omega arith) within small)

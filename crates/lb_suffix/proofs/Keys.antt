-- Keys of names.
use Rattle.std.proofs.Common.{◌≡◌, false, ℕ, ◌<◌, List, [], ◌∷◌, ◌++◌, refl, ap, ◌∙◌, arith}
use Rattle.std.specs.Ordering.{nat_cmp, ordering_then, is_lt}
use Rattle.std.specs.Cmp.Lexicographic.{slice_cmp}
use Rattle.std.specs.declared.cmp.Ordering.{Ordering}
use Rattle.std.specs.declared.cmp.Ordering.TheVariants.{Less, Equal, Greater}
use Rattle.std.proofs.lemmas.Cmp.{nat_cmp_total, tied_itself, ranked}

-- what may follow a front: nothing, or octets of which the first is below 64
abbrev pub Follows : List ℕ → Type 0
Follows [] = Unit {0}
Follows (n ∷ more) = n < 64

-- the keys that begin with one
pub record BeginsWith (front key : List ℕ) : Type 0 where
  pub rest : List ℕ
  pub is : key ≡ front ++ rest

less_64 : (n : ℕ) (o : Ordering) → o ≡ nat_cmp n 64 → n < 64 → o ≡ Less
less_64 n Less e lt = refl
less_64 n Equal e lt = let same : n ≡ 64 = ranked n 64 Equal e in absurd (omega (arith, same, lt))
less_64 n Greater e lt = let more : 64 < n = ranked n 64 Greater e in absurd (omega (arith, more, lt))

-- a key that begins with a front stands not before it, and before the front's end
pub low_end : (front rest : List ℕ) → is_lt (slice_cmp nat_cmp (front ++ rest) front) ≡ false
low_end [] [] = refl
low_end [] (n ∷ rest) = refl
low_end (k ∷ front) rest = ap (λ (o : Ordering). is_lt (ordering_then o (slice_cmp nat_cmp (front ++ rest) front))) (tied_itself nat_cmp_total k) ∙ low_end front rest

pub high_end : (front rest : List ℕ) → Follows rest → slice_cmp nat_cmp (front ++ rest) (front ++ 64 ∷ []) ≡ Less
high_end [] [] follows = refl
high_end [] (n ∷ rest) follows = ap (λ (o : Ordering). ordering_then o (slice_cmp nat_cmp rest [])) (less_64 n (nat_cmp n 64) refl follows)
high_end (k ∷ front) rest follows = ap (λ (o : Ordering). ordering_then o (slice_cmp nat_cmp (front ++ rest) (front ++ 64 ∷ []))) (tied_itself nat_cmp_total k) ∙ high_end front rest follows

begins_by : (k a : ℕ) (front key : List ℕ) (o : Ordering) → o ≡ nat_cmp a k → is_lt (ordering_then o (slice_cmp nat_cmp key front)) ≡ false → ordering_then o (slice_cmp nat_cmp key (front ++ 64 ∷ [])) ≡ Less → (is_lt (slice_cmp nat_cmp key front) ≡ false → slice_cmp nat_cmp key (front ++ 64 ∷ []) ≡ Less → BeginsWith front key) → BeginsWith (k ∷ front) (a ∷ key)
begins_by k a front key Less e low high go = absurd (cc low)
begins_by k a front key Equal e low high go =
    let same : a ≡ k = ranked a k Equal e in
    let after = go low high in
    record { rest = after.rest; is = ap (λ (n : ℕ). n ∷ key) same ∙ ap (λ (xs : List ℕ). k ∷ xs) after.is }
begins_by k a front key Greater e low high go = absurd (cc high)

-- and a key between the two begins with the front
pub begins : (front key : List ℕ) → is_lt (slice_cmp nat_cmp key front) ≡ false → slice_cmp nat_cmp key (front ++ 64 ∷ []) ≡ Less → BeginsWith front key
begins [] key low high = record { rest = key; is = refl }
begins (k ∷ front) [] low high = absurd (cc low)
begins (k ∷ front) (a ∷ key) low high = begins_by k a front key (nat_cmp a k) refl low high (λ low2 high2. begins front key low2 high2)

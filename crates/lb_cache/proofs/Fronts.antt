-- Octets that begin with others, by the order of octets.
use Rattle.std.proofs.Common.{◌≡◌, Bool, true, false, not, ◌&&◌, ℕ, ◌<◌, List, [], ◌∷◌, ◌++◌, refl, sym, ap, ◌∙◌, arith}
use Rattle.std.specs.Ordering.{nat_cmp, ordering_then, is_lt}
use Rattle.std.specs.Cmp.Lexicographic.{slice_cmp}
use Rattle.std.specs.declared.cmp.Ordering.{Ordering}
use Rattle.std.specs.declared.cmp.Ordering.TheVariants.{Less, Equal, Greater}
use Rattle.std.proofs.lemmas.Cmp.{nat_cmp_total, tied_itself, ranked}
use Rattle.lb_index_ranks.specs.declared.filed.Filed.{Filed}
use Rattle.lb_index_ranks.specs.Filed.{filed_at, is_before}
use Rattle.lb_cache.specs.Keys.{is_filed_within}

-- what may follow a front: nothing, or octets of which the first is below this one
abbrev pub Follows : ℕ → List ℕ → Type 0
Follows end [] = Unit {0}
Follows end (n ∷ more) = n < end

-- the octets that begin with a front, and go on below this one
pub record BeginsWith (front : List ℕ) (end : ℕ) (octets : List ℕ) : Type 0 where
  pub rest : List ℕ
  pub is : octets ≡ front ++ rest
  pub follows : Follows end rest

less_by : (n end : ℕ) (o : Ordering) → o ≡ nat_cmp n end → n < end → o ≡ Less
less_by n end Less e lt = refl
less_by n end Equal e lt = let same : n ≡ end = ranked n end Equal e in absurd (omega (arith, same, lt))
less_by n end Greater e lt = let more : end < n = ranked n end Greater e in absurd (omega (arith, more, lt))

low_end : (front rest : List ℕ) → is_lt (slice_cmp nat_cmp (front ++ rest) front) ≡ false
low_end [] [] = refl
low_end [] (n ∷ rest) = refl
low_end (k ∷ front) rest = ap (λ (o : Ordering). is_lt (ordering_then o (slice_cmp nat_cmp (front ++ rest) front))) (tied_itself nat_cmp_total k) ∙ low_end front rest

high_end : (front rest : List ℕ) (end : ℕ) → Follows end rest → slice_cmp nat_cmp (front ++ rest) (front ++ end ∷ []) ≡ Less
high_end [] [] end follows = refl
high_end [] (n ∷ rest) end follows = ap (λ (o : Ordering). ordering_then o (slice_cmp nat_cmp rest [])) (less_by n end (nat_cmp n end) refl follows)
high_end (k ∷ front) rest end follows = ap (λ (o : Ordering). ordering_then o (slice_cmp nat_cmp (front ++ rest) (front ++ end ∷ []))) (tied_itself nat_cmp_total k) ∙ high_end front rest end follows

no_less : (rest : List ℕ) → slice_cmp nat_cmp rest [] ≡ Less → ⊥
no_less [] is = absurd (cc is)
no_less (n ∷ rest) is = absurd (cc is)

follows_by : (n end : ℕ) (rest : List ℕ) (o : Ordering) → o ≡ nat_cmp n end → ordering_then o (slice_cmp nat_cmp rest []) ≡ Less → n < end
follows_by n end rest Less e is = ranked n end Less e
follows_by n end rest Equal e is = absurd (no_less rest is)
follows_by n end rest Greater e is = absurd (cc is)

follows_of : (octets : List ℕ) (end : ℕ) → slice_cmp nat_cmp octets (end ∷ []) ≡ Less → Follows end octets
follows_of [] end high = tt
follows_of (n ∷ octets) end high = follows_by n end octets (nat_cmp n end) refl high

begins_by : (k a end : ℕ) (front octets : List ℕ) (o : Ordering) → o ≡ nat_cmp a k → is_lt (ordering_then o (slice_cmp nat_cmp octets front)) ≡ false → ordering_then o (slice_cmp nat_cmp octets (front ++ end ∷ [])) ≡ Less → (is_lt (slice_cmp nat_cmp octets front) ≡ false → slice_cmp nat_cmp octets (front ++ end ∷ []) ≡ Less → BeginsWith front end octets) → BeginsWith (k ∷ front) end (a ∷ octets)
begins_by k a end front octets Less e low high go = absurd (cc low)
begins_by k a end front octets Equal e low high go =
    let same : a ≡ k = ranked a k Equal e in
    let after = go low high in
    record { rest = after.rest; is = ap (λ (n : ℕ). n ∷ octets) same ∙ ap (λ (xs : List ℕ). k ∷ xs) after.is; follows = after.follows }
begins_by k a end front octets Greater e low high go = absurd (cc high)

begins : (front octets : List ℕ) (end : ℕ) → is_lt (slice_cmp nat_cmp octets front) ≡ false → slice_cmp nat_cmp octets (front ++ end ∷ []) ≡ Less → BeginsWith front end octets
begins [] octets end low high = record { rest = octets; is = refl; follows = follows_of octets end high }
begins (k ∷ front) [] end low high = absurd (cc low)
begins (k ∷ front) (a ∷ octets) end low high = begins_by k a end front octets (nat_cmp a k) refl low high (λ low2 high2. begins front octets end low2 high2)

not_under_0 : (r : ℕ) (o : Ordering) → o ≡ nat_cmp r 0 → is_lt o ≡ false
not_under_0 r Less e = let less : r < 0 = ranked r 0 Less e in absurd (omega (arith, less))
not_under_0 r Equal e = refl
not_under_0 r Greater e = refl

-- before a pair of rank 0 stand the pairs whose key is less
before_0 : (r : ℕ) (o : Ordering) → is_lt (ordering_then o (nat_cmp r 0)) ≡ is_lt o
before_0 r Less = refl
before_0 r Equal = not_under_0 r (nat_cmp r 0) refl
before_0 r Greater = refl

is_less : (o : Ordering) → is_lt o ≡ true → o ≡ Less
is_less Less is = refl
is_less Equal is = absurd (cc is)
is_less Greater is = absurd (cc is)

pub within_parts : (a b : Bool) → (not a && b) ≡ true → (a ≡ false) × (b ≡ true)
within_parts true b is = absurd (cc is)
within_parts false b is = (refl, is)

-- a pair is within a front and its end where its key begins with the front
pub within_to : (front : List ℕ) (end : ℕ) (f : Filed) → BeginsWith front end f.key → is_filed_within front (front ++ end ∷ []) f ≡ true
within_to front end f begin =
    let low : is_before (filed_at front 0) f ≡ false =
    before_0 f.rank (slice_cmp nat_cmp f.key front) ∙ ap (λ (xs : List ℕ). is_lt (slice_cmp nat_cmp xs front)) begin.is ∙ low_end front begin.rest in
    let high : is_before (filed_at (front ++ end ∷ []) 0) f ≡ true =
    before_0 f.rank (slice_cmp nat_cmp f.key (front ++ end ∷ []))
    ∙ ap (λ (xs : List ℕ). is_lt (slice_cmp nat_cmp xs (front ++ end ∷ []))) begin.is ∙ ap is_lt (high_end front begin.rest end begin.follows) in
    ap (λ (b : Bool). not b && is_before (filed_at (front ++ end ∷ []) 0) f) low ∙ high

pub within_from : (front : List ℕ) (end : ℕ) (f : Filed) → is_filed_within front (front ++ end ∷ []) f ≡ true → BeginsWith front end f.key
within_from front end f is =
    let parts = within_parts (is_before (filed_at front 0) f) (is_before (filed_at (front ++ end ∷ []) 0) f) is in
    begins front f.key end (sym (before_0 f.rank (slice_cmp nat_cmp f.key front)) ∙ parts.0)
    (is_less (slice_cmp nat_cmp f.key (front ++ end ∷ [])) (sym (before_0 f.rank (slice_cmp nat_cmp f.key (front ++ end ∷ []))) ∙ parts.1))

-- whatever its rank
pub within_rank : (low high : List ℕ) (f : Filed) → is_filed_within low high f ≡ is_filed_within low high (filed_at f.key 0)
within_rank low high f =
    ap (λ (b : Bool). not b && is_before (filed_at high 0) f) (before_0 f.rank (slice_cmp nat_cmp f.key low) ∙ sym (before_0 0 (slice_cmp nat_cmp f.key low)))
    ∙ ap (λ (b : Bool). not (is_before (filed_at low 0) (filed_at f.key 0)) && b) (before_0 f.rank (slice_cmp nat_cmp f.key high) ∙ sym (before_0 0 (slice_cmp nat_cmp f.key high)))

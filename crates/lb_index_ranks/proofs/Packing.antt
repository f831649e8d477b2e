-- Keys by their fronts: the order, and that a front and what is after it tell the key.
use Rattle.std.proofs.Common.{◌≡◌, ◌⊎◌, inl, inr, set, replicate, ℕ, zero, suc, ◌+◌, ◌*◌, ◌^◌, ◌<◌, ◌≤◌, min, List, [], ◌∷◌, ◌++◌, length, get_or, slice_index, take, drop, refl, sym, ap, subst, ◌∙◌, arith, take-append-drop, mul-le-mul_right, suc-mul}
use Rattle.std.specs.List.{AllByRecursion}
use Rattle.std.specs.Int.{from_be_bytes, to_be_bytes, w64}
use Rattle.std.specs.Ordering.{nat_cmp, ordering_then, ordering_reverse}
use Rattle.std.specs.Cmp.Lexicographic.{slice_cmp}
use Rattle.std.specs.declared.cmp.Ordering.{Ordering}
use Rattle.std.specs.declared.cmp.Ordering.TheVariants.{Less, Equal, Greater}
use Rattle.std.proofs.Math.Nat.{pow-succ'}
use Rattle.std.proofs.lemmas.Cmp.{nat_cmp_total, nat_list_cmp_total, ranked, tied_itself}
use Rattle.std.proofs.lemmas.Nat.{be_bytes_8}
use Rattle.std.proofs.lemmas.List.{take_at, length-append, length-take-le, length-drop, take_all}
use Rattle.lb_index_ranks.specs.declared.front.Front.{Front}
use Rattle.lb_index_ranks.specs.Front.{counted, front_cmp, front_from, front_octets, front_of_key, key_from, octets_of_front, padded, AreOctets, IsPacked}

less_by : (a b : ℕ) (o : Ordering) → o ≡ nat_cmp a b → a < b → o ≡ Less
less_by a b Less e lt = refl
less_by a b Equal e lt = let same : a ≡ b = ranked a b Equal e in absurd (omega (arith, same, lt))
less_by a b Greater e lt = let more : b < a = ranked a b Greater e in absurd (omega (arith, more, lt))

less_cmp : (a b : ℕ) → a < b → nat_cmp a b ≡ Less
less_cmp a b lt = less_by a b (nat_cmp a b) refl lt

more_by : (a b : ℕ) (o : Ordering) → o ≡ nat_cmp a b → b < a → o ≡ Greater
more_by a b Less e lt = let less : a < b = ranked a b Less e in absurd (omega (arith, less, lt))
more_by a b Equal e lt = let same : a ≡ b = ranked a b Equal e in absurd (omega (arith, same, lt))
more_by a b Greater e lt = refl

more_cmp : (a b : ℕ) → b < a → nat_cmp a b ≡ Greater
more_cmp a b lt = more_by a b (nat_cmp a b) refl lt

pub then_then : (o r s : Ordering) → ordering_then (ordering_then o r) s ≡ ordering_then o (ordering_then r s)
then_then Less r s = refl
then_then Equal r s = refl
then_then Greater r s = refl

then_equal : (o : Ordering) → ordering_then o Equal ≡ o
then_equal Less = refl
then_equal Equal = refl
then_equal Greater = refl

-- zeros and a count stand before octets and a greater count
zero_by : (z : ℕ) (o rest : Ordering) → o ≡ nat_cmp 0 z → rest ≡ Less → ordering_then o rest ≡ Less
zero_by z Less rest e is = refl
zero_by z Equal rest e is = is
zero_by z Greater rest e is = let more : z < 0 = ranked 0 z Greater e in absurd (omega (arith, more))

zeros_less : (n p q : ℕ) (b : List ℕ) → p < q → slice_cmp nat_cmp (padded n [] ++ p ∷ []) (padded n b ++ q ∷ []) ≡ Less
zeros_less zero p q b lt = ap (λ (o : Ordering). ordering_then o Equal) (less_cmp p q lt)
zeros_less (suc n) p q [] lt = zeros_less n p q [] lt
zeros_less (suc n) p q (z ∷ b) lt = zero_by z (nat_cmp 0 z) (slice_cmp nat_cmp (padded n [] ++ p ∷ []) (padded n b ++ q ∷ [])) refl (zeros_less n p q b lt)

zeros_more : (n p q : ℕ) (b : List ℕ) → p < q → slice_cmp nat_cmp (padded n b ++ q ∷ []) (padded n [] ++ p ∷ []) ≡ Greater
zeros_more n p q b lt = nat_list_cmp_total.antisymm (padded n b ++ q ∷ []) (padded n [] ++ p ∷ []) ∙ ap ordering_reverse (zeros_less n p q b lt)

-- lists are in the order of their fronts, and then of what is after these
abbrev ByFronts : ℕ → ℕ → List ℕ → List ℕ → Ordering
ByFronts n k a b = ordering_then (slice_cmp nat_cmp (padded n a ++ (k + counted n a) ∷ []) (padded n b ++ (k + counted n b) ∷ [])) (slice_cmp nat_cmp (drop n a) (drop n b))

same_then : (o r : Ordering) → o ≡ Equal → r ≡ ordering_then o r
same_then o r is = ap (λ (p : Ordering). ordering_then p r) (sym is)

fronts : (n k : ℕ) (a b : List ℕ) → slice_cmp nat_cmp a b ≡ ByFronts n k a b
fronts zero k [] [] = same_then (slice_cmp nat_cmp ((k + 0) ∷ []) ((k + 0) ∷ [])) Equal (tied_itself nat_list_cmp_total ((k + 0) ∷ []))
fronts zero k [] (y ∷ b) = ap (λ (o : Ordering). ordering_then (ordering_then o Equal) Less) (sym (less_cmp (k + 0) (k + 1) (omega arith)))
fronts zero k (x ∷ a) [] = ap (λ (o : Ordering). ordering_then (ordering_then o Equal) Greater) (sym (more_cmp (k + 1) (k + 0) (omega arith)))
fronts zero k (x ∷ a) (y ∷ b) = same_then (slice_cmp nat_cmp ((k + 1) ∷ []) ((k + 1) ∷ [])) (slice_cmp nat_cmp (x ∷ a) (y ∷ b)) (tied_itself nat_list_cmp_total ((k + 1) ∷ []))
fronts (suc n) k [] [] = same_then (slice_cmp nat_cmp (padded (suc n) [] ++ (k + 0) ∷ []) (padded (suc n) [] ++ (k + 0) ∷ [])) Equal (tied_itself nat_list_cmp_total (padded (suc n) [] ++ (k + 0) ∷ []))
fronts (suc n) k [] (y ∷ b) = ap (λ (o : Ordering). ordering_then o (slice_cmp nat_cmp [] (drop n b))) (sym (zeros_less (suc n) (k + 0) (k + suc (counted n b)) (y ∷ b) (omega arith)))
fronts (suc n) k (x ∷ a) [] = ap (λ (o : Ordering). ordering_then o (slice_cmp nat_cmp (drop n a) [])) (sym (zeros_more (suc n) (k + 0) (k + suc (counted n a)) (x ∷ a) (omega arith)))
fronts (suc n) k (x ∷ a) (y ∷ b) =
    let one : suc k + counted n a ≡ k + suc (counted n a) = omega arith in
    let two : suc k + counted n b ≡ k + suc (counted n b) = omega arith in
    let rest : slice_cmp nat_cmp a b ≡ ordering_then (slice_cmp nat_cmp (padded n a ++ (k + suc (counted n a)) ∷ []) (padded n b ++ (k + suc (counted n b)) ∷ [])) (slice_cmp nat_cmp (drop n a) (drop n b)) =
    fronts n (suc k) a b ∙ ap (λ (t : ℕ). ordering_then (slice_cmp nat_cmp (padded n a ++ t ∷ []) (padded n b ++ (suc k + counted n b) ∷ [])) (slice_cmp nat_cmp (drop n a) (drop n b))) one
    ∙ ap (λ (t : ℕ). ordering_then (slice_cmp nat_cmp (padded n a ++ (k + suc (counted n a)) ∷ []) (padded n b ++ t ∷ [])) (slice_cmp nat_cmp (drop n a) (drop n b))) two in
    ap (λ (o : Ordering). ordering_then (nat_cmp x y) o) rest
    ∙ sym (then_then (nat_cmp x y) (slice_cmp nat_cmp (padded n a ++ (k + suc (counted n a)) ∷ []) (padded n b ++ (k + suc (counted n b)) ∷ [])) (slice_cmp nat_cmp (drop n a) (drop n b)))

-- the number of some octets, the highest first
abbrev number : List ℕ → ℕ
number [] = 0
number (x ∷ xs) = x * 256 ^ length xs + number xs

abbrev Bounded : List ℕ → Type 0
Bounded xs = AllByRecursion (λ (x : ℕ). x < 256) xs

number_bound : (xs : List ℕ) → Bounded xs → number xs < 256 ^ length xs
number_bound [] each = omega arith
number_bound (x ∷ xs) each =
    let rest : number xs < 256 ^ length xs = number_bound xs each.1 in
    let size : suc x * 256 ^ length xs ≤ 256 * 256 ^ length xs = mul-le-mul_right (256 ^ length xs) each.0 in
    let one : suc x * 256 ^ length xs ≡ x * 256 ^ length xs + 256 ^ length xs = suc-mul x (256 ^ length xs) in
    let power : 256 ^ length (x ∷ xs) ≡ 256 * 256 ^ length xs = pow-succ' 256 (length xs) in
    omega (arith, rest, size, one, power)

added_by : (c p q : ℕ) (o : Ordering) → o ≡ nat_cmp p q → nat_cmp (c + p) (c + q) ≡ o
added_by c p q Less e = (let less : p < q = ranked p q Less e in less_cmp (c + p) (c + q) (omega (arith, less)))
added_by c p q Equal e = (let same : p ≡ q = ranked p q Equal e in subst (λ (r : ℕ). nat_cmp (c + p) (c + r) ≡ Equal) same (tied_itself nat_cmp_total (c + p)))
added_by c p q Greater e = (let more : q < p = ranked p q Greater e in more_cmp (c + p) (c + q) (omega (arith, more)))

digit_by : (a b base p q : ℕ) (o : Ordering) → o ≡ nat_cmp a b → p < base → q < base → nat_cmp (a * base + p) (b * base + q) ≡ ordering_then o (nat_cmp p q)
digit_by a b base p q Less e lp lq =
    let less : a < b = ranked a b Less e in
    let size : suc a * base ≤ b * base = mul-le-mul_right base less in
    let one : suc a * base ≡ a * base + base = suc-mul a base in
    less_cmp (a * base + p) (b * base + q) (omega (arith, size, one, lp))
digit_by a b base p q Equal e lp lq =
    let same : a ≡ b = ranked a b Equal e in
    subst (λ (c : ℕ). nat_cmp (a * base + p) (c * base + q) ≡ nat_cmp p q) same (added_by (a * base) p q (nat_cmp p q) refl)
digit_by a b base p q Greater e lp lq =
    let more : b < a = ranked a b Greater e in
    let size : suc b * base ≤ a * base = mul-le-mul_right base more in
    let one : suc b * base ≡ b * base + base = suc-mul b base in
    more_cmp (a * base + p) (b * base + q) (omega (arith, size, one, lq))

-- lists of octets of one length are in the order of their numbers
numbers : (xs ys : List ℕ) → length xs ≡ length ys → Bounded xs → Bounded ys → slice_cmp nat_cmp xs ys ≡ nat_cmp (number xs) (number ys)
numbers [] [] same a b = refl
numbers [] (y ∷ ys) same a b = absurd (omega (arith, same))
numbers (x ∷ xs) [] same a b = absurd (omega (arith, same))
numbers (x ∷ xs) (y ∷ ys) same a b =
    let size : length xs ≡ length ys = omega (arith, same) in
    let base : 256 ^ length ys ≡ 256 ^ length xs = ap (λ (n : ℕ). 256 ^ n) (sym size) in
    let bound : number ys < 256 ^ length xs = subst (λ (n : ℕ). number ys < n) base (number_bound ys b.1) in
    ap (λ (o : Ordering). ordering_then (nat_cmp x y) o) (numbers xs ys size a.1 b.1)
    ∙ sym (digit_by x y (256 ^ length xs) (number xs) (number ys) (nat_cmp x y) refl (number_bound xs a.1) bound)
    ∙ ap (λ (n : ℕ). nat_cmp (x * 256 ^ length xs + number xs) (y * n + number ys)) (sym base)

slices : (x y u v : List ℕ) → length x ≡ length y → slice_cmp nat_cmp (x ++ u) (y ++ v) ≡ ordering_then (slice_cmp nat_cmp x y) (slice_cmp nat_cmp u v)
slices [] [] u v same = refl
slices [] (b ∷ y) u v same = absurd (omega (arith, same))
slices (a ∷ x) [] u v same = absurd (omega (arith, same))
slices (a ∷ x) (b ∷ y) u v same =
    ap (λ (o : Ordering). ordering_then (nat_cmp a b) o) (slices x y u v (omega (arith, same)))
    ∙ sym (then_then (nat_cmp a b) (slice_cmp nat_cmp x y) (slice_cmp nat_cmp u v))

number_8 : (xs : List ℕ) → length xs ≡ 8 → from_be_bytes w64 xs ≡ number xs
number_8 (a ∷ b ∷ c ∷ d ∷ e ∷ f ∷ g ∷ h ∷ []) size = omega arith
number_8 [] size = absurd (omega (arith, size))
number_8 (a ∷ []) size = absurd (omega (arith, size))
number_8 (a ∷ b ∷ []) size = absurd (omega (arith, size))
number_8 (a ∷ b ∷ c ∷ []) size = absurd (omega (arith, size))
number_8 (a ∷ b ∷ c ∷ d ∷ []) size = absurd (omega (arith, size))
number_8 (a ∷ b ∷ c ∷ d ∷ e ∷ []) size = absurd (omega (arith, size))
number_8 (a ∷ b ∷ c ∷ d ∷ e ∷ f ∷ []) size = absurd (omega (arith, size))
number_8 (a ∷ b ∷ c ∷ d ∷ e ∷ f ∷ g ∷ []) size = absurd (omega (arith, size))
number_8 (a ∷ b ∷ c ∷ d ∷ e ∷ f ∷ g ∷ h ∷ i ∷ more) size = absurd (omega (arith, size))

piece : (x y : List ℕ) → length x ≡ 8 → length y ≡ 8 → Bounded x → Bounded y → slice_cmp nat_cmp x y ≡ nat_cmp (from_be_bytes w64 x) (from_be_bytes w64 y)
piece x y a b bx by =
    numbers x y (omega (arith, a, b)) bx by ∙ ap (λ (n : ℕ). nat_cmp n (number y)) (sym (number_8 x a)) ∙ ap (λ (n : ℕ). nat_cmp (from_be_bytes w64 x) n) (sym (number_8 y b))

bounded_take : (n : ℕ) (xs : List ℕ) → Bounded xs → Bounded (take n xs)
bounded_take zero xs each = tt
bounded_take (suc n) [] each = tt
bounded_take (suc n) (x ∷ xs) each = (each.0, bounded_take n xs each.1)

bounded_drop : (n : ℕ) (xs : List ℕ) → Bounded xs → Bounded (drop n xs)
bounded_drop zero xs each = each
bounded_drop (suc n) [] each = tt
bounded_drop (suc n) (x ∷ xs) each = bounded_drop n xs each.1

bounded_at : (xs : List ℕ) → Bounded xs → (i : ℕ) → get_or xs i 0 < 256
bounded_at [] each zero = omega arith
bounded_at [] each (suc i) = omega arith
bounded_at (x ∷ xs) each zero = each.0
bounded_at (x ∷ xs) each (suc i) = bounded_at xs each.1 i

-- 24 octets in three pieces
record Pieces (octets : List ℕ) : Type 0 where
  one : length (take 8 octets) ≡ 8
  two : length (take 8 (drop 8 octets)) ≡ 8
  three : length (take 8 (drop 8 (drop 8 octets))) ≡ 8
  last : take 8 (drop 8 (drop 8 octets)) ≡ drop 8 (drop 8 octets)
  each : Bounded octets

pieces : (octets : List ℕ) → length octets ≡ 24 → Bounded octets → Pieces octets
pieces octets size each =
    let one : length (take 8 octets) ≡ 8 = length-take-le 8 octets (omega (arith, size)) in
    let left : length (drop 8 octets) ≡ 16 = omega (arith, size, length-drop 8 octets) in
    let two : length (take 8 (drop 8 octets)) ≡ 8 = length-take-le 8 (drop 8 octets) (omega (arith, left)) in
    let end : length (drop 8 (drop 8 octets)) ≡ 8 = omega (arith, left, length-drop 8 (drop 8 octets)) in
    let last : take 8 (drop 8 (drop 8 octets)) ≡ drop 8 (drop 8 octets) = take_all 8 (drop 8 (drop 8 octets)) (omega (arith, end)) in
    record { one = one; two = two; three = ap (λ (xs : List ℕ). length xs) last ∙ end; last = last; each = each }

fronts_24 : (f g : List ℕ) → Pieces f → Pieces g → slice_cmp nat_cmp f g ≡ front_cmp (front_from f) (front_from g)
fronts_24 f g a b =
    let f8 : List ℕ = drop 8 f in
    let g8 : List ℕ = drop 8 g in
    let first : slice_cmp nat_cmp f g ≡ ordering_then (slice_cmp nat_cmp (take 8 f) (take 8 g)) (slice_cmp nat_cmp f8 g8) =
    ap (λ (xs : List ℕ). slice_cmp nat_cmp xs g) (sym (take-append-drop 8 f)) ∙ ap (λ (xs : List ℕ). slice_cmp nat_cmp (take 8 f ++ f8) xs) (sym (take-append-drop 8 g))
    ∙ slices (take 8 f) (take 8 g) f8 g8 (omega (arith, a.one, b.one)) in
    let second : slice_cmp nat_cmp f8 g8 ≡ ordering_then (slice_cmp nat_cmp (take 8 f8) (take 8 g8)) (slice_cmp nat_cmp (drop 8 f8) (drop 8 g8)) =
    ap (λ (xs : List ℕ). slice_cmp nat_cmp xs g8) (sym (take-append-drop 8 f8)) ∙ ap (λ (xs : List ℕ). slice_cmp nat_cmp (take 8 f8 ++ drop 8 f8) xs) (sym (take-append-drop 8 g8))
    ∙ slices (take 8 f8) (take 8 g8) (drop 8 f8) (drop 8 g8) (omega (arith, a.two, b.two)) in
    let third : slice_cmp nat_cmp (drop 8 f8) (drop 8 g8) ≡ slice_cmp nat_cmp (take 8 (drop 8 f8)) (take 8 (drop 8 g8)) =
    ap (λ (xs : List ℕ). slice_cmp nat_cmp xs (drop 8 g8)) (sym a.last) ∙ ap (λ (xs : List ℕ). slice_cmp nat_cmp (take 8 (drop 8 f8)) xs) (sym b.last) in
    first
    ∙ ap (λ (o : Ordering). ordering_then o (slice_cmp nat_cmp f8 g8)) (piece (take 8 f) (take 8 g) a.one b.one (bounded_take 8 f a.each) (bounded_take 8 g b.each))
    ∙ ap (λ (o : Ordering). ordering_then (nat_cmp (front_from f).first (front_from g).first) o)
    (second ∙ ap (λ (o : Ordering). ordering_then o (slice_cmp nat_cmp (drop 8 f8) (drop 8 g8))) (piece (take 8 f8) (take 8 g8) a.two b.two (bounded_take 8 f8 (bounded_drop 8 f a.each)) (bounded_take 8 g8 (bounded_drop 8 g b.each)))
    ∙ ap (λ (o : Ordering). ordering_then (nat_cmp (front_from f).second (front_from g).second) o)
    (third ∙ piece (take 8 (drop 8 f8)) (take 8 (drop 8 g8)) a.three b.three (bounded_take 8 (drop 8 f8) (bounded_drop 8 f8 (bounded_drop 8 f a.each))) (bounded_take 8 (drop 8 g8) (bounded_drop 8 g8 (bounded_drop 8 g b.each)))))

padded_len : (n : ℕ) (a : List ℕ) → length (padded n a) ≡ n
padded_len zero a = refl
padded_len (suc n) [] = ap suc (padded_len n [])
padded_len (suc n) (x ∷ a) = ap suc (padded_len n a)

counted_few : (n : ℕ) (a : List ℕ) → counted n a ≤ suc n
counted_few zero [] = omega arith
counted_few zero (x ∷ a) = omega arith
counted_few (suc n) [] = omega arith
counted_few (suc n) (x ∷ a) = let few : counted n a ≤ suc n = counted_few n a in omega (arith, few)

bounded_front : (n : ℕ) (a : List ℕ) (t : ℕ) → ((i : ℕ) → get_or a i 0 < 256) → t < 256 → Bounded (padded n a ++ t ∷ [])
bounded_front zero a t octets lt = (lt, tt)
bounded_front (suc n) [] t octets lt = (omega arith, bounded_front n [] t octets lt)
bounded_front (suc n) (x ∷ a) t octets lt = (octets 0, bounded_front n a t (λ i. octets (suc i)) lt)

key_pieces : (key : List ℕ) → AreOctets key → Pieces (front_octets key)
key_pieces key octets =
    pieces (front_octets key) (omega (arith, length-append (padded 23 key) (counted 23 key ∷ []), padded_len 23 key))
    (bounded_front 23 key (counted 23 key) octets (let few : counted 23 key ≤ 24 = counted_few 23 key in omega (arith, few)))

-- keys are in the order of their fronts, and then of what is after these
pub key_order : (a b : List ℕ) → AreOctets a → AreOctets b → slice_cmp nat_cmp a b ≡ ordering_then (front_cmp (front_of_key a) (front_of_key b)) (slice_cmp nat_cmp (drop 23 a) (drop 23 b))
key_order a b octets_a octets_b =
    let rest : Ordering = slice_cmp nat_cmp (drop 23 a) (drop 23 b) in
    let one : 0 + counted 23 a ≡ counted 23 a = omega arith in
    let two : 0 + counted 23 b ≡ counted 23 b = omega arith in
    fronts 23 0 a b ∙ ap (λ (t : ℕ). ordering_then (slice_cmp nat_cmp (padded 23 a ++ t ∷ []) (padded 23 b ++ (0 + counted 23 b) ∷ [])) rest) one
    ∙ ap (λ (t : ℕ). ordering_then (slice_cmp nat_cmp (front_octets a) (padded 23 b ++ t ∷ [])) rest) two
    ∙ ap (λ (o : Ordering). ordering_then o rest) (fronts_24 (front_octets a) (front_octets b) (key_pieces a octets_a) (key_pieces b octets_b))

take_counted : (n : ℕ) (a : List ℕ) → take (counted n a) (padded n a) ≡ take n a
take_counted zero [] = refl
take_counted zero (x ∷ a) = refl
take_counted (suc n) [] = refl
take_counted (suc n) (x ∷ a) = ap (λ (xs : List ℕ). x ∷ xs) (take_counted n a)

last_index : (xs : List ℕ) (t n : ℕ) → length xs ≡ n → get_or (xs ++ t ∷ []) n 0 ≡ t
last_index [] t zero size = refl
last_index [] t (suc n) size = absurd (omega (arith, size))
last_index (x ∷ xs) t zero size = absurd (omega (arith, size))
last_index (x ∷ xs) t (suc n) size = last_index xs t n (omega (arith, size))

octets_back : (f : List ℕ) → Pieces f → octets_of_front (front_from f) ≡ f
octets_back f p =
    let f8 : List ℕ = drop 8 f in
    let one : to_be_bytes w64 (from_be_bytes w64 (take 8 f)) ≡ take 8 f = be_bytes_8 (take 8 f) (from_be_bytes w64 (take 8 f)) p.one (bounded_at (take 8 f) (bounded_take 8 f p.each)) refl in
    let two : to_be_bytes w64 (from_be_bytes w64 (take 8 f8)) ≡ take 8 f8 = be_bytes_8 (take 8 f8) (from_be_bytes w64 (take 8 f8)) p.two (bounded_at (take 8 f8) (bounded_take 8 f8 (bounded_drop 8 f p.each))) refl in
    let three : to_be_bytes w64 (from_be_bytes w64 (take 8 (drop 8 f8))) ≡ drop 8 f8 = be_bytes_8 (take 8 (drop 8 f8)) (from_be_bytes w64 (take 8 (drop 8 f8))) p.three (bounded_at (take 8 (drop 8 f8)) (bounded_take 8 (drop 8 f8) (bounded_drop 8 f8 (bounded_drop 8 f p.each)))) refl ∙ p.last in
    ap (λ (xs : List ℕ). xs ++ (to_be_bytes w64 (front_from f).second ++ to_be_bytes w64 (front_from f).third)) one
    ∙ ap (λ (xs : List ℕ). take 8 f ++ (xs ++ to_be_bytes w64 (front_from f).third)) two
    ∙ ap (λ (xs : List ℕ). take 8 f ++ (take 8 f8 ++ xs)) three
    ∙ ap (λ (xs : List ℕ). take 8 f ++ xs) (take-append-drop 8 f8) ∙ take-append-drop 8 f

-- the front and what is after it tell the key
pub key_back : (key : List ℕ) → AreOctets key → key_from (front_of_key key) (drop 23 key) ≡ key
key_back key octets =
    let whole : octets_of_front (front_of_key key) ≡ front_octets key = octets_back (front_octets key) (key_pieces key octets) in
    let size : length (padded 23 key) ≡ 23 = padded_len 23 key in
    ap (λ (xs : List ℕ). take (slice_index xs 23) (take 23 xs) ++ drop 23 key) whole
    ∙ ap (λ (t : ℕ). take t (take 23 (front_octets key)) ++ drop 23 key) (last_index (padded 23 key) (counted 23 key) 23 size)
    ∙ ap (λ (xs : List ℕ). take (counted 23 key) xs ++ drop 23 key) (take_at (padded 23 key) (counted 23 key ∷ []) 23 size)
    ∙ ap (λ (xs : List ℕ). xs ++ drop 23 key) (take_counted 23 key) ∙ take-append-drop 23 key

pub packed : (key : List ℕ) → AreOctets key → IsPacked (front_of_key key) (drop 23 key)
packed key octets =
    let same : key_from (front_of_key key) (drop 23 key) ≡ key = key_back key octets in
    record {
      front_is = ap front_of_key (sym same);
      rest_is = ap (λ (xs : List ℕ). drop 23 xs) (sym same);
      octets = subst AreOctets (sym same) octets;
    }

-- the order of packed keys
pub packed_order : (f g : Front) (r s : List ℕ) → IsPacked f r → IsPacked g s → slice_cmp nat_cmp (key_from f r) (key_from g s) ≡ ordering_then (front_cmp f g) (slice_cmp nat_cmp r s)
packed_order f g r s a b =
    key_order (key_from f r) (key_from g s) a.octets b.octets
    ∙ ap (λ (x : Front). ordering_then (front_cmp x (front_of_key (key_from g s))) (slice_cmp nat_cmp (drop 23 (key_from f r)) (drop 23 (key_from g s)))) (sym a.front_is)
    ∙ ap (λ (x : Front). ordering_then (front_cmp f x) (slice_cmp nat_cmp (drop 23 (key_from f r)) (drop 23 (key_from g s)))) (sym b.front_is)
    ∙ ap (λ (xs : List ℕ). ordering_then (front_cmp f g) (slice_cmp nat_cmp xs (drop 23 (key_from g s)))) (sym a.rest_is)
    ∙ ap (λ (xs : List ℕ). ordering_then (front_cmp f g) (slice_cmp nat_cmp r xs)) (sym b.rest_is)

-- a front as it is laid: the octets that there are, over zeros, and then how many they are
pub laid : (n m t : ℕ) (key : List ℕ) → m ≤ length key → m ≤ n → (length key ≤ m) ⊎ (n ≤ m) → set (take m key ++ drop m (replicate (suc n) 0)) n t ≡ padded n key ++ t ∷ []
laid zero zero t key le few all = refl
laid zero (suc m) t key le few all = absurd (omega (arith, few))
laid (suc n) zero t [] le few all = ap (λ (xs : List ℕ). 0 ∷ xs) (laid n zero t [] le (omega arith) (inl (omega arith)))
laid (suc n) zero t (x ∷ key) le few (inl short) = absurd (omega (arith, short))
laid (suc n) zero t (x ∷ key) le few (inr full) = absurd (omega (arith, full))
laid (suc n) (suc m) t [] le few all = absurd (omega (arith, le))
laid (suc n) (suc m) t (x ∷ key) le few (inl short) = ap (λ (xs : List ℕ). x ∷ xs) (laid n m t key (omega (arith, le)) (omega (arith, few)) (inl (omega (arith, short))))
laid (suc n) (suc m) t (x ∷ key) le few (inr full) = ap (λ (xs : List ℕ). x ∷ xs) (laid n m t key (omega (arith, le)) (omega (arith, few)) (inr (omega (arith, full))))

pub counted_all : (n : ℕ) (key : List ℕ) → length key ≤ n → counted n key ≡ length key
counted_all zero [] le = refl
counted_all zero (x ∷ key) le = absurd (omega (arith, le))
counted_all (suc n) [] le = refl
counted_all (suc n) (x ∷ key) le = ap suc (counted_all n key (omega (arith, le)))

pub counted_more : (n : ℕ) (key : List ℕ) → n < length key → counted n key ≡ suc n
counted_more n [] lt = absurd (omega (arith, lt))
counted_more zero (x ∷ key) lt = refl
counted_more (suc n) (x ∷ key) lt = ap suc (counted_more n key (omega (arith, lt)))

-- what one packed key has, another has where the keys are the same
pub packed_front : (f g : Front) (r s : List ℕ) → IsPacked f r → IsPacked g s → key_from f r ≡ key_from g s → (f ≡ g) × (r ≡ s)
packed_front f g r s a b same = (a.front_is ∙ ap front_of_key same ∙ sym b.front_is, a.rest_is ∙ ap (λ (xs : List ℕ). drop 23 xs) same ∙ sym b.rest_is)

pub least_of : (a b m : ℕ) → m ≡ min a b → (m ≤ a) × (m ≤ b) × (a ≤ m ⊎ b ≤ m)
least_of a b m is = grind arith

pub drop_over : (n : ℕ) (key : List ℕ) → length key ≤ n → drop n key ≡ []
drop_over zero [] le = refl
drop_over (suc n) [] le = refl
drop_over zero (x ∷ key) le = absurd (omega (arith, le))
drop_over (suc n) (x ∷ key) le = drop_over n key (omega (arith, le))

-- what is after the front, where there may be less than a front
pub drop_least : (n m : ℕ) (key : List ℕ) → m ≡ min (length key) n → drop m key ≡ drop n key
drop_least n m key is =
    let least = least_of (length key) n m is in
    elim least.2 [
      | inl short ↦ drop_over m key short ∙ sym (drop_over n key (let le : m ≤ n = least.1 in omega (arith, short, le)))
      | inr full ↦ ap (λ (i : ℕ). drop i key) (let le : m ≤ n = least.1 in omega (arith, full, le))
    ]

pub then_other : (o r : Ordering) → (o ≡ Equal → ⊥) → ordering_then o r ≡ o
then_other Less r other = refl
then_other Equal r other = absurd (other refl)
then_other Greater r other = refl

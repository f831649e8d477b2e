-- Keys in two pieces.
use Rattle.std.proofs.Common.{◌≡◌, inl, inr, ℕ, zero, suc, ◌+◌, ◌-◌, ◌≤◌, min, List, [], ◌∷◌, ◌++◌, length, take, drop, refl, sym, ap, ◌∙◌, arith}
use Rattle.std.specs.Ordering.{nat_cmp, ordering_then}
use Rattle.std.specs.Cmp.Lexicographic.{slice_cmp}
use Rattle.std.specs.declared.cmp.Ordering.{Ordering}
use Rattle.std.proofs.Math.Seq.{take-append-add, take-append_seam, drop-append-add, drop-append_seam, drop-nil}
use Rattle.std.proofs.lemmas.List.{append-nil, take-append-le, drop-append-le, take_all, length-append}
use Rattle.lb_index_ranks.specs.Front.{AreOctets}
use Rattle.lb_index_ranks.proofs.Packing.{least_of, drop_least, drop_over, then_then}

none_left : (a n m k : ℕ) → n ≤ m → k ≡ min a (n - m) → k ≡ 0
none_left a n m k full is = grind arith

-- what is taken of a piece and then of the other is taken of both
pub take_two : (n : ℕ) (h t : List ℕ) (m k : ℕ) → m ≡ min (length h) n → k ≡ min (length t) (n - m) → take m h ++ take k t ≡ take (m + k) (h ++ t)
take_two n h t m k one two =
    let least = least_of (length h) n m one in
    elim least.2 [
      | inl short ↦
          let size : m ≡ length h = (let le : m ≤ length h = least.0 in omega (arith, short, le)) in
          ap (λ (xs : List ℕ). xs ++ take k t) (take_all m h short)
          ∙ sym (take-append-add h t k)
          ∙ ap (λ (i : ℕ). take (i + k) (h ++ t)) (sym size)
      | inr full ↦
          let none : k ≡ 0 = none_left (length t) n m k full two in
          ap (λ (i : ℕ). take m h ++ take i t) none
          ∙ append-nil (take m h)
          ∙ sym (take-append-le m h t least.0)
          ∙ ap (λ (i : ℕ). take i (h ++ t)) (omega (arith, none))
    ]

-- what is left of a piece and then of the other is left of both
pub drop_two : (n : ℕ) (h t : List ℕ) (m k : ℕ) → m ≡ min (length h) n → k ≡ min (length t) (n - m) → drop m h ++ drop k t ≡ drop (m + k) (h ++ t)
drop_two n h t m k one two =
    let least = least_of (length h) n m one in
    elim least.2 [
      | inl short ↦
          let size : m ≡ length h = (let le : m ≤ length h = least.0 in omega (arith, short, le)) in
          ap (λ (xs : List ℕ). xs ++ drop k t) (drop_over m h short)
          ∙ sym (drop-append-add h t k)
          ∙ ap (λ (i : ℕ). drop (i + k) (h ++ t)) (sym size)
      | inr full ↦
          let none : k ≡ 0 = none_left (length t) n m k full two in
          ap (λ (i : ℕ). drop m h ++ drop i t) none
          ∙ sym (drop-append-le m h t least.0)
          ∙ ap (λ (i : ℕ). drop i (h ++ t)) (omega (arith, none))
    ]

-- so much is taken of both as there is, and as is asked for
pub both_least : (a b n m k : ℕ) → m ≡ min a n → k ≡ min b (n - m) → m + k ≡ min (a + b) n
both_least a b n m k one two = grind arith

pub two_least : (n : ℕ) (h t : List ℕ) (m k : ℕ) → m ≡ min (length h) n → k ≡ min (length t) (n - m) → m + k ≡ min (length (h ++ t)) n
two_least n h t m k one two = both_least (length h) (length t) n m k one two ∙ ap (λ (i : ℕ). min i n) (sym (length-append h t))

-- what is after a front's octets in both pieces
pub drop_front : (n : ℕ) (h t : List ℕ) (m k : ℕ) → m ≡ min (length h) n → k ≡ min (length t) (n - m) → drop m h ++ drop k t ≡ drop n (h ++ t)
drop_front n h t m k one two = drop_two n h t m k one two ∙ drop_least n (m + k) (h ++ t) (two_least n h t m k one two)

drop_drop : (a b : ℕ) (z : List ℕ) → drop b (drop a z) ≡ drop (a + b) z
drop_drop zero b z = ap (λ (i : ℕ). drop i z) (omega arith)
drop_drop (suc a) b [] = drop-nil b ∙ sym (drop-nil (suc a + b))
drop_drop (suc a) b (x ∷ z) =
    let more : suc (a + b) ≡ suc a + b = omega arith in
    drop_drop a b z ∙ ap (λ (i : ℕ). drop i (x ∷ z)) more

-- a piece over the first of others, and then another piece after it
pub put_two : (first second z o : List ℕ) → o ≡ first ++ drop (length first) z → take (length first) o ++ (second ++ drop (length first + length second) o) ≡ first ++ (second ++ drop (length first + length second) z)
put_two first second z o is =
    ap (λ (xs : List ℕ). take (length first) xs ++ (second ++ drop (length first + length second) xs)) is
    ∙ ap (λ (xs : List ℕ). xs ++ (second ++ drop (length first + length second) (first ++ drop (length first) z))) (take-append_seam first (drop (length first) z))
    ∙ ap (λ (xs : List ℕ). first ++ (second ++ xs)) (drop-append-add first (drop (length first) z) (length second) ∙ drop_drop (length first) (length second) z)

-- the order to two pieces: to the first, and then to the second
pub order_two : (o f s : List ℕ) → slice_cmp nat_cmp o (f ++ s) ≡ ordering_then (slice_cmp nat_cmp (take (length f) o) f) (slice_cmp nat_cmp (drop (length f) o) s)
order_two o [] s = refl
order_two [] (x ∷ f) s = refl
order_two (y ∷ o) (x ∷ f) s =
    ap (λ (p : Ordering). ordering_then (nat_cmp y x) p) (order_two o f s)
    ∙ sym (then_then (nat_cmp y x) (slice_cmp nat_cmp (take (length f) o) f) (slice_cmp nat_cmp (drop (length f) o) s))

-- as much of a list as there is
pub take_least : (n m : ℕ) (key : List ℕ) → m ≡ min (length key) n → take m key ≡ take n key
take_least n m key is =
    let least = least_of (length key) n m is in
    elim least.2 [
      | inl short ↦ take_all m key short ∙ sym (take_all n key (let le : m ≤ n = least.1 in omega (arith, short, le)))
      | inr full ↦ ap (λ (i : ℕ). take i key) (let le : m ≤ n = least.1 in omega (arith, full, le))
    ]

pub halves : (o f s : List ℕ) → o ≡ f ++ s → (take (length f) o ≡ f) × (drop (length f) o ≡ s)
halves o f s is = (ap (take (length f)) is ∙ take-append_seam f s, ap (drop (length f)) is ∙ drop-append_seam f s)

-- octets in both pieces are octets in both together
pub octets_two : (h t : List ℕ) → AreOctets h → AreOctets t → AreOctets (h ++ t)
octets_two [] t one two i = two i
octets_two (x ∷ h) t one two zero = one 0
octets_two (x ∷ h) t one two (suc i) = octets_two h t (λ j. one (suc j)) two i

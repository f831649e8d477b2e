-- The ring through its changes.
use Rattle.std.proofs.Common.{◌≡◌, ℕ, zero, suc, ◌+◌, ◌<◌, ◌≤◌, ◌^◌, true, false, ◌==◌, inl, inr, List, [], ◌∷◌, ◌++◌, length, cond, refl, sym, ap, subst, ◌∙◌, arith}
use Rattle.std.specs.List.{AllByRecursion}
use Rattle.std.proofs.lemmas.Bool.{cases_Bool, eqb-true, eq-eqb, ltb-false, ltb-true}
use Rattle.std.specs.Prelude.{nat_lt}
use Rattle.lb_index_ring.specs.declared.ring.Links.{Links}
use Rattle.lb_index_ring.specs.Ring.{Distinct, IsPath, IsRing, Lacks, after, before, first_of, has, is_slot, next_of, prev_of, put_after, put_behind, slots_of, trail, without}
use Rattle.lb_index_ring.proofs.Paths.{all_after, all_without, distinct_after, distinct_without, flips, lacks_is, length_after, length_without, linked, linked_here, next_in, prev_in, same_path, stands, tail_path, trail_is, trail_same, unlinked}

pub length_trail : (nx : ℕ → ℕ) (k n : ℕ) → length (trail nx k n) ≡ n
length_trail nx k zero = refl
length_trail nx k (suc n) = ap suc (length_trail nx (nx k) n)

-- a path from the end to the end is what the ring shows
pub shows : (links : List Links) (ss : List ℕ) (len : ℕ) → IsPath (next_of links) (prev_of links) 0 ss 0 → length ss ≡ len → slots_of links len ≡ ss
shows links ss len path is = ap (trail (next_of links) (next_of links 0)) (sym is) ∙ trail_is (next_of links) (prev_of links) 0 ss 0 path

-- what the ring keeps true, by what it shows
pub ring_of : (links : List Links) (ss : List ℕ) (len : ℕ) → slots_of links len ≡ ss → IsPath (next_of links) (prev_of links) 0 ss 0 → Lacks 0 ss → Distinct ss → AllByRecursion (λ k. k < length links) ss → (0 < len → 0 < length links) → len + 1 < 2 ^ 64 → IsRing links len
ring_of links ss len is path lack apart within start small = record {
  path = subst (λ (xs : List ℕ). IsPath (next_of links) (prev_of links) 0 xs 0) (sym is) path;
  ends_lack = subst (Lacks 0) (sym is) lack;
  distinct = subst Distinct (sym is) apart;
  within = subst (AllByRecursion (λ k. k < length links)) (sym is) within;
  start = start;
  small = small;
}

-- a ring with a slot in it has one
pub has_one : (links : List Links) (len s : ℕ) → has s (slots_of links len) ≡ true → 0 < len
has_one links zero s is = absurd (cc)
has_one links (suc n) s is = omega arith

all_ahead : (P : ℕ → Type 0) (xs ys : List ℕ) → AllByRecursion P (xs ++ ys) → AllByRecursion P xs
all_ahead P [] ys all = tt
all_ahead P (x ∷ xs) ys all = (all.0, all_ahead P xs ys all.1)

all_behind : (P : ℕ → Type 0) (xs ys : List ℕ) → AllByRecursion P (xs ++ ys) → AllByRecursion P ys
all_behind P [] ys all = all
all_behind P (x ∷ xs) ys all = all_behind P xs ys all.1

-- its neighbours are within
pub prev_within : (links : List Links) (len s : ℕ) → IsRing links len → has s (slots_of links len) ≡ true → prev_of links s < length links
prev_within links len s ring is =
    let at = stands s (slots_of links len) is in
    let path = subst (λ (xs : List ℕ). IsPath (next_of links) (prev_of links) 0 xs 0) at.2 ring.path in
    let within = subst (AllByRecursion (λ k. k < length links)) at.2 ring.within in
    prev_in (λ k. k < length links) (next_of links) (prev_of links) 0 at.0 s at.1 0 path (ring.start (has_one links len s is), all_ahead (λ k. k < length links) at.0 (s ∷ at.1) within)

pub next_within : (links : List Links) (len s : ℕ) → IsRing links len → has s (slots_of links len) ≡ true → next_of links s < length links
next_within links len s ring is =
    let at = stands s (slots_of links len) is in
    let path = subst (λ (xs : List ℕ). IsPath (next_of links) (prev_of links) 0 xs 0) at.2 ring.path in
    let within = subst (AllByRecursion (λ k. k < length links)) at.2 ring.within in
    let rest = tail_path (next_of links) (prev_of links) 0 at.0 s at.1 0 path in
    next_in (λ k. k < length links) (next_of links) (prev_of links) s at.1 0 rest (all_behind (λ k. k < length links) at.0 (s ∷ at.1) within).1 (ring.start (has_one links len s is))

-- a slot goes
pub removed : (links new : List Links) (len less s : ℕ) → IsRing links len → has s (slots_of links len) ≡ true
    → ((k : ℕ) → next_of new k ≡ cond (k == prev_of links s) (next_of links s) (next_of links k))
    → ((k : ℕ) → prev_of new k ≡ cond (k == next_of links s) (prev_of links s) (prev_of links k))
    → length new ≡ length links → less + 1 ≡ len → (slots_of new less ≡ without s (slots_of links len)) × IsRing new less
removed links new len less s ring is hn hp size count =
    let slots = slots_of links len in
    let at = stands s slots is in
    let path = subst (λ (xs : List ℕ). IsPath (next_of links) (prev_of links) 0 xs 0) at.2 ring.path in
    let lack = subst (Lacks 0) at.2 ring.ends_lack in
    let apart = subst Distinct at.2 ring.distinct in
    let path' = unlinked (next_of links) (prev_of links) (next_of new) (prev_of new) s hn hp 0 at.0 at.1 0 (lack, apart) lack path in
    let goes = subst (λ (xs : List ℕ). IsPath (next_of new) (prev_of new) 0 xs 0) (sym at.3) path' in
    let many : length (without s slots) ≡ less = omega (arith, length_without s slots is, length_trail (next_of links) (next_of links 0) len) in
    let shown = shows new (without s slots) less goes many in (
      shown,
      ring_of new (without s slots) less shown goes (all_without (λ k. is_slot 0 k ≡ false) s slots ring.ends_lack) (distinct_without s slots ring.distinct)
          (subst (λ (n : ℕ). AllByRecursion (λ k. k < n) (without s slots)) (sym size) (all_without (λ k. k < length links) s slots ring.within)) (λ some. let one : 0 < len = omega (arith) in subst (λ (n : ℕ). 0 < n) (sym size) (ring.start one)) (omega (arith, ring.small, count)),
    )

all_lt : (n m : ℕ) → n ≤ m → (ks : List ℕ) → AllByRecursion (λ k. k < n) ks → AllByRecursion (λ k. k < m) ks
all_lt n m le [] all = tt
all_lt n m le (k ∷ ks) all = (omega (arith, all.0), all_lt n m le ks all.1)

-- more room
pub grown : (links new : List Links) (len : ℕ) → IsRing links len → ((k : ℕ) → next_of new k ≡ next_of links k) → ((k : ℕ) → prev_of new k ≡ prev_of links k) → length links ≤ length new → (slots_of new len ≡ slots_of links len) × IsRing new len
grown links new len ring hn hp more =
    let shown : slots_of new len ≡ slots_of links len = trail_same (next_of links) (next_of new) hn (next_of new 0) len ∙ ap (λ (j : ℕ). trail (next_of links) j len) (hn 0) in (
      shown,
      ring_of new (slots_of links len) len shown (same_path (next_of links) (prev_of links) (next_of new) (prev_of new) hn hp 0 (slots_of links len) 0 ring.path) ring.ends_lack ring.distinct
          (all_lt (length links) (length new) more (slots_of links len) ring.within) (λ some. let one = ring.start some in omega (arith, one)) ring.small,
    )

pub not_zero : (s : ℕ) → 0 < s → (s == 0) ≡ false
not_zero s lt = elim (cases_Bool (s == 0)) [
  | inl t ↦ let is : s ≡ 0 = eqb-true s 0 t in absurd (omega arith)
  | inr t ↦ t
]

-- a slot comes
pub put_in : (links new : List Links) (len p s : ℕ) → IsRing links len → 0 < s → s < length links → has s (slots_of links len) ≡ false → has p (0 ∷ slots_of links len) ≡ true → len + 2 < 2 ^ 64
    → ((k : ℕ) → next_of new k ≡ cond (k == p) s (cond (k == s) (next_of links p) (next_of links k)))
    → ((k : ℕ) → prev_of new k ≡ cond (k == next_of links p) s (cond (k == s) p (prev_of links k)))
    → length new ≡ length links → (slots_of new (len + 1) ≡ put_behind p s (slots_of links len)) × IsRing new (len + 1)
put_in links new len p s ring some room fresh is few hn hp size =
    let slots = slots_of links len in
    let lacks = lacks_is s slots fresh in
    let off : (s == 0) ≡ false = not_zero s some in
    let count = length_trail (next_of links) (next_of links 0) len in
    elim (cases_Bool (p == 0)) [
      | inl t ↦
          let zero_is : p ≡ 0 = eqb-true p 0 t in
          let path : IsPath (next_of new) (prev_of new) p (s ∷ slots) 0 = linked_here (next_of links) (prev_of links) (next_of new) (prev_of new) p s hn hp slots 0 (subst (λ (j : ℕ). (s == j) ≡ false) (sym zero_is) off) lacks off (subst (λ (j : ℕ). Distinct (j ∷ slots)) (sym zero_is) (ring.ends_lack, ring.distinct)) ring.ends_lack (subst (λ (j : ℕ). IsPath (next_of links) (prev_of links) j slots 0) (sym zero_is) ring.path) in
          let path' = subst (λ (j : ℕ). IsPath (next_of new) (prev_of new) j (s ∷ slots) 0) zero_is path in
          let many : length (s ∷ slots) ≡ len + 1 = omega (arith, count) in
          let shown = shows new (s ∷ slots) (len + 1) path' many in
          let ring' = ring_of new (s ∷ slots) (len + 1) shown path' (flips s 0 off, ring.ends_lack) (lacks, ring.distinct) (subst (λ (n : ℕ). AllByRecursion (λ k. k < n) (s ∷ slots)) (sym size) (room, ring.within)) (λ _. omega (arith, size, room)) (omega (arith, few)) in
          (rw t shown, ring')
      | inr t ↦
          let more : has p slots ≡ true = rw t at is in
          let at = stands p slots more in
          let after : put_after p s slots ≡ at.0 ++ p ∷ s ∷ at.1 = at.4 s in
          let path = linked (next_of links) (prev_of links) (next_of new) (prev_of new) p s hn hp 0 at.0 at.1 0 off (subst (Lacks s) at.2 lacks) off (subst (λ (xs : List ℕ). Distinct (0 ∷ xs)) at.2 (ring.ends_lack, ring.distinct)) (subst (Lacks 0) at.2 ring.ends_lack) (subst (λ (xs : List ℕ). IsPath (next_of links) (prev_of links) 0 xs 0) at.2 ring.path) in
          let path' = subst (λ (xs : List ℕ). IsPath (next_of new) (prev_of new) 0 xs 0) (sym after) path in
          let many : length (put_after p s slots) ≡ len + 1 = omega (arith, count, length_after p s slots more) in
          let shown = shows new (put_after p s slots) (len + 1) path' many in
          let ring' = ring_of new (put_after p s slots) (len + 1) shown path' (all_after (λ k. (0 == k) ≡ false) p s slots (flips s 0 off) ring.ends_lack) (distinct_after p s slots lacks ring.distinct) (subst (λ (n : ℕ). AllByRecursion (λ k. k < n) (put_after p s slots)) (sym size) (all_after (λ k. k < length links) p s slots room ring.within)) (λ _. omega (arith, size, room)) (omega (arith, few)) in
          (rw t shown, ring')
    ]

-- what holds of the end and of each slot holds of the next one
pub next_has : (Q : ℕ → Type 0) (links : List Links) (len p : ℕ) → IsRing links len → has p (0 ∷ slots_of links len) ≡ true → Q 0 → AllByRecursion Q (slots_of links len) → Q (next_of links p)
next_has Q links len p ring is end all =
    let slots = slots_of links len in
    elim (cases_Bool (p == 0)) [
      | inl t ↦
          let zero_is : 0 ≡ p = sym (eqb-true p 0 t) in
          subst (λ (j : ℕ). Q (next_of links j)) zero_is (next_in Q (next_of links) (prev_of links) 0 slots 0 ring.path all end)
      | inr t ↦
          let more : has p slots ≡ true = rw t at is in
          let at = stands p slots more in
          let path = subst (λ (xs : List ℕ). IsPath (next_of links) (prev_of links) 0 xs 0) at.2 ring.path in
          let rest = tail_path (next_of links) (prev_of links) 0 at.0 p at.1 0 path in
          next_in Q (next_of links) (prev_of links) p at.1 0 rest (all_behind Q at.0 (p ∷ at.1) (subst (AllByRecursion Q) at.2 all)).1 end
    ]

-- along a path each slot's neighbours are those that the list has
path_next : (nx pv : ℕ → ℕ) (a : ℕ) (ss : List ℕ) (s : ℕ) → IsPath nx pv a ss 0 → has s ss ≡ true → nx s ≡ after s ss
path_next nx pv a [] s path is = absurd (cc)
path_next nx pv a (k ∷ ks) s path is = elim (cases_Bool (is_slot s k)) [
  | inl t ↦
      let same : s ≡ k = eqb-true s k t in
      rw t (ap nx same ∙ first_next nx pv k ks path.2)
  | inr t ↦
      let more : has s ks ≡ true = rw t at is in
      rw t (path_next nx pv k ks s path.2 more)
] where
  first_next : (nx pv : ℕ → ℕ) (a : ℕ) (ss : List ℕ) → IsPath nx pv a ss 0 → nx a ≡ first_of ss
  first_next nx pv a [] path = path.0
  first_next nx pv a (k ∷ ks) path = path.0

path_prev : (nx pv : ℕ → ℕ) (a : ℕ) (ss : List ℕ) (b s : ℕ) → IsPath nx pv a ss b → has s ss ≡ true → pv s ≡ before a s ss
path_prev nx pv a [] b s path is = absurd (cc)
path_prev nx pv a (k ∷ ks) b s path is = elim (cases_Bool (is_slot s k)) [
  | inl t ↦
      let same : s ≡ k = eqb-true s k t in
      rw t (ap pv same ∙ path.1)
  | inr t ↦
      let more : has s ks ≡ true = rw t at is in
      rw t (path_prev nx pv k ks b s path.2 more)
]

pub next_is : (links : List Links) (len s : ℕ) → IsRing links len → has s (slots_of links len) ≡ true → next_of links s ≡ after s (slots_of links len)
next_is links len s ring is = path_next (next_of links) (prev_of links) 0 (slots_of links len) s ring.path is

pub prev_is : (links : List Links) (len s : ℕ) → IsRing links len → has s (slots_of links len) ≡ true → prev_of links s ≡ before 0 s (slots_of links len)
prev_is links len s ring is = path_prev (next_of links) (prev_of links) 0 (slots_of links len) 0 s ring.path is

-- ---- no more slots than there is room for

all_below : (n : ℕ) (ks : List ℕ) → AllByRecursion (λ k. k < suc n) ks → Lacks n ks → AllByRecursion (λ k. k < n) ks
all_below n [] all lacks = tt
all_below n (k ∷ ks) all lacks = (below n k all.0 lacks.0, all_below n ks all.1 lacks.1) where
  below : (n k : ℕ) → k < suc n → (n == k) ≡ false → k < n
  below n k lt off = elim (cases_Bool (nat_lt k n)) [
    | inl t ↦ ltb-true k n t
    | inr t ↦
        let over : n ≤ k = ltb-false k n t in
        let same : n ≡ k = omega (arith, lt, over) in
        let on : (n == k) ≡ true = eq-eqb n k same in
        absurd (cc)
  ]

lacks_gone : (n : ℕ) (ks : List ℕ) → Distinct ks → has n ks ≡ true → Lacks n (without n ks)
lacks_gone n [] apart is = absurd (cc)
lacks_gone n (k ∷ ks) apart is = elim (cases_Bool (is_slot n k)) [
  | inl t ↦ let same : k ≡ n = sym (eqb-true n k t) in rw t (subst (λ (j : ℕ). Lacks j ks) same apart.0)
  | inr t ↦ let more : has n ks ≡ true = rw t at is in rw t (t, lacks_gone n ks apart.1 more)
]

pub no_more : (n : ℕ) (ks : List ℕ) → Distinct ks → AllByRecursion (λ k. k < n) ks → length ks ≤ n
no_more zero [] apart all = omega arith
no_more zero (k ∷ ks) apart all = absurd (omega (arith, all.0))
no_more (suc n) ks apart all = elim (cases_Bool (has n ks)) [
  | inl t ↦
      let rest = no_more n (without n ks) (distinct_without n ks apart) (all_below n (without n ks) (all_without (λ k. k < suc n) n ks all) (lacks_gone n ks apart t)) in
      omega (arith, rest, length_without n ks t)
  | inr t ↦
      let rest = no_more n ks apart (all_below n ks all (lacks_is n ks t)) in
      omega (arith, rest)
]

-- a ring fits the machine, as its links do
pub fits : (links : List Links) (len : ℕ) → IsRing links len → length links < 2 ^ 63 → len + 2 < 2 ^ 64
fits links len ring small =
    let few = no_more (length links) (slots_of links len) ring.distinct ring.within in
    omega (arith, few, length_trail (next_of links) (next_of links 0) len, small)

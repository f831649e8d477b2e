-- Paths through slots, and what a change of neighbours does to them.
use Rattle.std.proofs.Common.{◌≡◌, ℕ, zero, suc, ◌+◌, true, false, ◌==◌, inl, inr, List, [], ◌∷◌, ◌++◌, length, cond, refl, sym, ap, subst, ◌∙◌, arith}
use Rattle.std.specs.List.{AllByRecursion}
use Rattle.std.proofs.lemmas.Bool.{cases_Bool, eqb-true, eq-eqb}
use Rattle.lb_index_ring.specs.Ring.{Distinct, IsPath, Lacks, has, is_slot, put_after, trail, without}

-- what is walked is the path
pub trail_is : (nx pv : ℕ → ℕ) (a : ℕ) (ss : List ℕ) (b : ℕ) → IsPath nx pv a ss b → trail nx (nx a) (length ss) ≡ ss
trail_is nx pv a [] b path = refl
trail_is nx pv a (s ∷ ss) b path = rw path.0 (ap (λ (ks : List ℕ). s ∷ ks) (trail_is nx pv s ss b path.2))

pub flips : (a b : ℕ) → (a == b) ≡ false → (b == a) ≡ false
flips a b not = elim (cases_Bool (b == a)) [
  | inl t ↦ let is : a ≡ b = sym (eqb-true b a t) in let yes : (a == b) ≡ true = eq-eqb a b is in absurd (cc)
  | inr t ↦ t
]

pub self_is : (a b : ℕ) → a ≡ b → (a == b) ≡ true
self_is a b is = eq-eqb a b is

all_left : (P : ℕ → Type 0) (xs ys : List ℕ) → AllByRecursion P (xs ++ ys) → AllByRecursion P xs
all_left P [] ys all = tt
all_left P (x ∷ xs) ys all = (all.0, all_left P xs ys all.1)

all_right : (P : ℕ → Type 0) (xs ys : List ℕ) → AllByRecursion P (xs ++ ys) → AllByRecursion P ys
all_right P [] ys all = all
all_right P (x ∷ xs) ys all = all_right P xs ys all.1

all_more : (P R : ℕ → Type 0) → ((k : ℕ) → P k → R k) → (xs : List ℕ) → AllByRecursion P xs → AllByRecursion R xs
all_more P R f [] all = tt
all_more P R f (x ∷ xs) all = (f x all.0, all_more P R f xs all.1)

all_both : (P Q R : ℕ → Type 0) → ((k : ℕ) → P k → Q k → R k) → (xs : List ℕ) → AllByRecursion P xs → AllByRecursion Q xs → AllByRecursion R xs
all_both P Q R f [] one two = tt
all_both P Q R f (x ∷ xs) one two = (f x one.0 two.0, all_both P Q R f xs one.1 two.1)

-- a path whose neighbours stay
pub framed : (nx pv nx' pv' : ℕ → ℕ) (a : ℕ) (ss : List ℕ) (b : ℕ) → AllByRecursion (λ k. nx' k ≡ nx k) (a ∷ ss) → AllByRecursion (λ k. pv' k ≡ pv k) ss → pv' b ≡ pv b → IsPath nx pv a ss b → IsPath nx' pv' a ss b
framed nx pv nx' pv' a [] b src tgt last path = (src.0 ∙ path.0, last ∙ path.1)
framed nx pv nx' pv' a (s ∷ ss) b src tgt last path =
    (src.0 ∙ path.0, tgt.0 ∙ path.1, framed nx pv nx' pv' s ss b src.1 tgt.1 last path.2)

-- the slot before one on a path is the first or one ahead of it
pub prev_in : (Q : ℕ → Type 0) (nx pv : ℕ → ℕ) (a : ℕ) (xs : List ℕ) (s : ℕ) (ys : List ℕ) (b : ℕ) → IsPath nx pv a (xs ++ s ∷ ys) b → AllByRecursion Q (a ∷ xs) → Q (pv s)
prev_in Q nx pv a [] s ys b path all = subst Q (sym path.1) all.0
prev_in Q nx pv a (x ∷ xs) s ys b path all = prev_in Q nx pv x xs s ys b path.2 all.1

pub tail_path : (nx pv : ℕ → ℕ) (a : ℕ) (xs : List ℕ) (s : ℕ) (ys : List ℕ) (b : ℕ) → IsPath nx pv a (xs ++ s ∷ ys) b → IsPath nx pv s ys b
tail_path nx pv a [] s ys b path = path.2
tail_path nx pv a (x ∷ xs) s ys b path = tail_path nx pv x xs s ys b path.2

pub next_in : (Q : ℕ → Type 0) (nx pv : ℕ → ℕ) (s : ℕ) (ys : List ℕ) (b : ℕ) → IsPath nx pv s ys b → AllByRecursion Q ys → Q b → Q (nx s)
next_in Q nx pv s [] b path all last = subst Q (sym path.0) last
next_in Q nx pv s (y ∷ ys) b path all last = subst Q (sym path.0) all.0

-- a slot goes: its neighbours are joined
pub unlinked : (nx pv nx' pv' : ℕ → ℕ) (s : ℕ) → ((k : ℕ) → nx' k ≡ cond (k == pv s) (nx s) (nx k)) → ((k : ℕ) → pv' k ≡ cond (k == nx s) (pv s) (pv k))
    → (a : ℕ) (xs ys : List ℕ) (b : ℕ) → Distinct (a ∷ (xs ++ s ∷ ys)) → Lacks b (xs ++ s ∷ ys) → IsPath nx pv a (xs ++ s ∷ ys) b → IsPath nx' pv' a (xs ++ ys) b
unlinked nx pv nx' pv' s hn hp a [] [] b apart last path =
    let here : (a == pv s) ≡ true = self_is a (pv s) (sym path.1) in
    let there : (b == nx s) ≡ true = self_is b (nx s) (sym path.2.0) in
    let forth : nx' a ≡ nx s = hn a ∙ rw here refl in
    let back : pv' b ≡ pv s = hp b ∙ rw there refl in
    (forth ∙ path.2.0, back ∙ path.1)
unlinked nx pv nx' pv' s hn hp a [] (y ∷ ys) b apart last path =
    let here : (a == pv s) ≡ true = self_is a (pv s) (sym path.1) in
    let there : (y == nx s) ≡ true = self_is y (nx s) (sym path.2.0) in
    let forth : nx' a ≡ nx s = hn a ∙ rw here refl in
    let back : pv' y ≡ pv s = hp y ∙ rw there refl in
    let hn' : (k : ℕ) → (a == k) ≡ false → nx' k ≡ nx k = λ k e. hn k ∙ (let no : (k == pv s) ≡ false = ap (λ (j : ℕ). k == j) path.1 ∙ flips a k e in rw no refl) in
    let hp' : (k : ℕ) → (y == k) ≡ false → pv' k ≡ pv k = λ k e. hp k ∙ (let no : (k == nx s) ≡ false = ap (λ (j : ℕ). k == j) path.2.0 ∙ flips y k e in rw no refl) in
    (forth ∙ path.2.0, back ∙ path.1, framed nx pv nx' pv' y ys b (all_more (λ k. (a == k) ≡ false) (λ k. nx' k ≡ nx k) hn' (y ∷ ys) apart.0.1) (all_more (λ k. (y == k) ≡ false) (λ k. pv' k ≡ pv k) hp' ys apart.1.1.0) (hp' b (flips b y last.1.0)) path.2.2)
unlinked nx pv nx' pv' s hn hp a (x ∷ xs) ys b apart last path =
    let before : (a == pv s) ≡ false = prev_in (λ k. (a == k) ≡ false) nx pv x xs s ys b path.2 (apart.0.0, all_left (λ k. (a == k) ≡ false) xs (s ∷ ys) apart.0.1) in
    let rest = tail_path nx pv x xs s ys b path.2 in
    let behind : (x == nx s) ≡ false = next_in (λ k. (x == k) ≡ false) nx pv s ys b rest (all_right (λ k. (x == k) ≡ false) xs (s ∷ ys) apart.1.0).1 (flips b x last.0) in
    let forth : nx' a ≡ nx a = hn a ∙ rw before refl in
    let back : pv' x ≡ pv x = hp x ∙ rw behind refl in
    (forth ∙ path.0, back ∙ path.1, unlinked nx pv nx' pv' s hn hp x xs ys b apart.1 last.1 path.2)

-- what stands after it is as it was
linked_rest : (nx pv nx' pv' : ℕ → ℕ) (p s : ℕ) → ((k : ℕ) → nx' k ≡ cond (k == p) s (cond (k == s) (nx p) (nx k))) → ((k : ℕ) → pv' k ≡ cond (k == nx p) s (cond (k == s) p (pv k)))
    → (y : ℕ) (ys : List ℕ) (b : ℕ) → Lacks s (y ∷ ys) → (s == b) ≡ false → Distinct (p ∷ y ∷ ys) → Lacks b (y ∷ ys) → IsPath nx pv p (y ∷ ys) b → IsPath nx' pv' y ys b
linked_rest nx pv nx' pv' p s hn hp y ys b fresh past apart last path =
    let forth : (k : ℕ) → (p == k) ≡ false → (s == k) ≡ false → nx' k ≡ nx k = λ k e f. hn k ∙ (let no : (k == p) ≡ false = flips p k e in let not : (k == s) ≡ false = flips s k f in rw (no, not) refl) in
    let back : (k : ℕ) → (y == k) ≡ false → (s == k) ≡ false → pv' k ≡ pv k = λ k e f. hp k ∙ (let no : (k == nx p) ≡ false = ap (λ (j : ℕ). k == j) path.0 ∙ flips y k e in let not : (k == s) ≡ false = flips s k f in rw (no, not) refl) in
    framed nx pv nx' pv' y ys b
    (all_both (λ k. (p == k) ≡ false) (λ k. (s == k) ≡ false) (λ k. nx' k ≡ nx k) forth (y ∷ ys) apart.0 fresh)
    (all_both (λ k. (y == k) ≡ false) (λ k. (s == k) ≡ false) (λ k. pv' k ≡ pv k) back ys apart.1.0 fresh.1)
    (back b (flips b y last.0) past) path.2

-- a slot comes after the first one of a path
pub linked_here : (nx pv nx' pv' : ℕ → ℕ) (p s : ℕ) → ((k : ℕ) → nx' k ≡ cond (k == p) s (cond (k == s) (nx p) (nx k))) → ((k : ℕ) → pv' k ≡ cond (k == nx p) s (cond (k == s) p (pv k)))
    → (ys : List ℕ) (b : ℕ) → (s == p) ≡ false → Lacks s ys → (s == b) ≡ false → Distinct (p ∷ ys) → Lacks b ys → IsPath nx pv p ys b → IsPath nx' pv' p (s ∷ ys) b
linked_here nx pv nx' pv' p s hn hp [] b other fresh past apart last path =
    let first : (p == p) ≡ true = self_is p p refl in
    let self : (s == s) ≡ true = self_is s s refl in
    let end : (b == nx p) ≡ true = self_is b (nx p) (sym path.0) in
    let not : (s == nx p) ≡ false = ap (λ (j : ℕ). s == j) path.0 ∙ past in
    let one : nx' p ≡ s = hn p ∙ rw first refl in
    let two : pv' s ≡ p = hp s ∙ rw (not, self) refl in
    let three : nx' s ≡ nx p = hn s ∙ rw (other, self) refl in
    let four : pv' b ≡ s = hp b ∙ rw end refl in
    (one, two, (three ∙ path.0, four))
linked_here nx pv nx' pv' p s hn hp (y ∷ ys) b other fresh past apart last path =
    let first : (p == p) ≡ true = self_is p p refl in
    let self : (s == s) ≡ true = self_is s s refl in
    let end : (y == nx p) ≡ true = self_is y (nx p) (sym path.0) in
    let not : (s == nx p) ≡ false = ap (λ (j : ℕ). s == j) path.0 ∙ fresh.0 in
    let one : nx' p ≡ s = hn p ∙ rw first refl in
    let two : pv' s ≡ p = hp s ∙ rw (not, self) refl in
    let three : nx' s ≡ nx p = hn s ∙ rw (other, self) refl in
    let four : pv' y ≡ s = hp y ∙ rw end refl in
    (one, two, (three ∙ path.0, four, linked_rest nx pv nx' pv' p s hn hp y ys b fresh past apart last path))

-- the same with slots ahead of it
pub linked : (nx pv nx' pv' : ℕ → ℕ) (p s : ℕ) → ((k : ℕ) → nx' k ≡ cond (k == p) s (cond (k == s) (nx p) (nx k))) → ((k : ℕ) → pv' k ≡ cond (k == nx p) s (cond (k == s) p (pv k)))
    → (a : ℕ) (xs ys : List ℕ) (b : ℕ) → (s == a) ≡ false → Lacks s (xs ++ p ∷ ys) → (s == b) ≡ false → Distinct (a ∷ (xs ++ p ∷ ys)) → Lacks b (xs ++ p ∷ ys) → IsPath nx pv a (xs ++ p ∷ ys) b → IsPath nx' pv' a (xs ++ p ∷ s ∷ ys) b
linked nx pv nx' pv' p s hn hp a [] ys b other fresh past apart last path =
    let no : (a == p) ≡ false = apart.0.0 in
    let not : (a == s) ≡ false = flips s a other in
    let behind : (p == nx p) ≡ false = next_in (λ k. (p == k) ≡ false) nx pv p ys b path.2 apart.1.0 (flips b p last.0) in
    let off : (p == s) ≡ false = flips s p fresh.0 in
    let forth : nx' a ≡ nx a = hn a ∙ rw (no, not) refl in
    let back : pv' p ≡ pv p = hp p ∙ rw (behind, off) refl in
    (forth ∙ path.0, back ∙ path.1, linked_here nx pv nx' pv' p s hn hp ys b fresh.0 fresh.1 past apart.1 last.1 path.2)
linked nx pv nx' pv' p s hn hp a (x ∷ xs) ys b other fresh past apart last path =
    let no : (a == p) ≡ false = (all_right (λ k. (a == k) ≡ false) xs (p ∷ ys) apart.0.1).0 in
    let not : (a == s) ≡ false = flips s a other in
    let rest = tail_path nx pv x xs p ys b path.2 in
    let behind : (x == nx p) ≡ false = next_in (λ k. (x == k) ≡ false) nx pv p ys b rest (all_right (λ k. (x == k) ≡ false) xs (p ∷ ys) apart.1.0).1 (flips b x last.0) in
    let off : (x == s) ≡ false = flips s x fresh.0 in
    let forth : nx' a ≡ nx a = hn a ∙ rw (no, not) refl in
    let back : pv' x ≡ pv x = hp x ∙ rw (behind, off) refl in
    (forth ∙ path.0, back ∙ path.1, linked nx pv nx' pv' p s hn hp x xs ys b fresh.0 fresh.1 past apart.1 last.1 path.2)

-- ---- a list and the place of a slot in it

-- where a slot stands
abbrev pub Stands : ℕ → List ℕ → Type 0
Stands slot slots = (xs : List ℕ) × (ys : List ℕ) × (slots ≡ xs ++ slot ∷ ys) × (without slot slots ≡ xs ++ ys) × ((s : ℕ) → put_after slot s slots ≡ xs ++ slot ∷ s ∷ ys)

pub stands : (slot : ℕ) (slots : List ℕ) → has slot slots ≡ true → Stands slot slots
stands slot [] is = absurd (cc)
stands slot (k ∷ ks) is = elim (cases_Bool (is_slot slot k)) [
  | inl t ↦
      let same : slot ≡ k = eqb-true slot k t in
      let first : k ∷ ks ≡ slot ∷ ks = ap (λ (j : ℕ). j ∷ ks) (sym same) in
      ([], ks, first, rw t refl, λ s. rw t (ap (λ (j : ℕ). j ∷ s ∷ ks) (sym same)))
  | inr t ↦
      let more : has slot ks ≡ true = rw t at is in
      let r = stands slot ks more in
      (k ∷ r.0, r.1, ap (λ (zs : List ℕ). k ∷ zs) r.2, rw t (ap (λ (zs : List ℕ). k ∷ zs) r.3), λ s. rw t (ap (λ (zs : List ℕ). k ∷ zs) (r.4 s)))
]

pub all_without : (P : ℕ → Type 0) (slot : ℕ) (ks : List ℕ) → AllByRecursion P ks → AllByRecursion P (without slot ks)
all_without P slot [] all = tt
all_without P slot (k ∷ ks) all = elim (cases_Bool (is_slot slot k)) [
  | inl t ↦ rw t all.1
  | inr t ↦ rw t (all.0, all_without P slot ks all.1)
]

pub distinct_without : (slot : ℕ) (ks : List ℕ) → Distinct ks → Distinct (without slot ks)
distinct_without slot [] apart = tt
distinct_without slot (k ∷ ks) apart = elim (cases_Bool (is_slot slot k)) [
  | inl t ↦ rw t apart.1
  | inr t ↦ rw t (all_without (λ j. (k == j) ≡ false) slot ks apart.0, distinct_without slot ks apart.1)
]

pub length_without : (slot : ℕ) (ks : List ℕ) → has slot ks ≡ true → length (without slot ks) + 1 ≡ length ks
length_without slot [] is = absurd (cc)
length_without slot (k ∷ ks) is = elim (cases_Bool (is_slot slot k)) [
  | inl t ↦ rw t (omega arith)
  | inr t ↦ let more : has slot ks ≡ true = rw t at is in let rest = length_without slot ks more in rw t (omega (arith, rest))
]

pub has_passes : (P : ℕ → Type 0) (slot : ℕ) (ks : List ℕ) → has slot ks ≡ true → AllByRecursion P ks → P slot
has_passes P slot [] is all = absurd (cc)
has_passes P slot (k ∷ ks) is all = elim (cases_Bool (is_slot slot k)) [
  | inl t ↦ let same : k ≡ slot = sym (eqb-true slot k t) in subst P same all.0
  | inr t ↦ let more : has slot ks ≡ true = rw t at is in has_passes P slot ks more all.1
]

pub all_after : (P : ℕ → Type 0) (p s : ℕ) (ks : List ℕ) → P s → AllByRecursion P ks → AllByRecursion P (put_after p s ks)
all_after P p s [] here all = tt
all_after P p s (k ∷ ks) here all = elim (cases_Bool (is_slot p k)) [
  | inl t ↦ rw t (all.0, (here, all.1))
  | inr t ↦ rw t (all.0, all_after P p s ks here all.1)
]

pub distinct_after : (p s : ℕ) (ks : List ℕ) → Lacks s ks → Distinct ks → Distinct (put_after p s ks)
distinct_after p s [] fresh apart = tt
distinct_after p s (k ∷ ks) fresh apart = elim (cases_Bool (is_slot p k)) [
  | inl t ↦ rw t ((flips s k fresh.0, apart.0), (fresh.1, apart.1))
  | inr t ↦ rw t (all_after (λ j. (k == j) ≡ false) p s ks (flips s k fresh.0) apart.0, distinct_after p s ks fresh.1 apart.1)
]

pub length_after : (p s : ℕ) (ks : List ℕ) → has p ks ≡ true → length (put_after p s ks) ≡ length ks + 1
length_after p s [] is = absurd (cc)
length_after p s (k ∷ ks) is = elim (cases_Bool (is_slot p k)) [
  | inl t ↦ rw t (omega arith)
  | inr t ↦ let more : has p ks ≡ true = rw t at is in let rest = length_after p s ks more in rw t (omega (arith, rest))
]

pub lacks_is : (slot : ℕ) (ks : List ℕ) → has slot ks ≡ false → Lacks slot ks
lacks_is slot [] is = tt
lacks_is slot (k ∷ ks) is = elim (cases_Bool (is_slot slot k)) [
  | inl t ↦ let yes : true ≡ false = rw t at is in absurd (cc)
  | inr t ↦ let more : has slot ks ≡ false = rw t at is in (t, lacks_is slot ks more)
]

pub trail_same : (nx nx' : ℕ → ℕ) → ((k : ℕ) → nx' k ≡ nx k) → (k n : ℕ) → trail nx' k n ≡ trail nx k n
trail_same nx nx' same k zero = refl
trail_same nx nx' same k (suc n) = ap (λ (ks : List ℕ). k ∷ ks) (trail_same nx nx' same (nx' k) n ∙ ap (λ (j : ℕ). trail nx j n) (same k))

all_true : (P : ℕ → Type 0) → ((k : ℕ) → P k) → (ks : List ℕ) → AllByRecursion P ks
all_true P f [] = tt
all_true P f (k ∷ ks) = (f k, all_true P f ks)

pub same_path : (nx pv nx' pv' : ℕ → ℕ) → ((k : ℕ) → nx' k ≡ nx k) → ((k : ℕ) → pv' k ≡ pv k) → (a : ℕ) (ss : List ℕ) (b : ℕ) → IsPath nx pv a ss b → IsPath nx' pv' a ss b
same_path nx pv nx' pv' hn hp a ss b path = framed nx pv nx' pv' a ss b (all_true (λ k. nx' k ≡ nx k) hn (a ∷ ss)) (all_true (λ k. pv' k ≡ pv k) hp ss) (hp b) path

-- What is filed under keys, seen as masks.
use Rattle.std.proofs.Common.{◌≡◌, ◌⊎◌, ℕ, zero, suc, ◌<◌, List, [], ◌∷◌, length, get_or, map, Contains, inl, inr, refl, sym, ap, subst, ◌∙◌, arith}
use Rattle.std.specs.List.{AllByRecursion}
use Rattle.lb_masks.specs.Mask.{Prefix}
use Rattle.lb_index_ranks.specs.declared.filed.Filed.{Filed}
use Rattle.lb_index_ranks.specs.Filed.{filed_at, HasBesides, HasBut}
use Rattle.lb_masks.specs.Index.{Pair, pair_of, shown, IsFiledWith, IsFiledWithout}
use Rattle.lb_masks.specs.Key.{IsKey, IsMask, key_of, mask_of}
use Rattle.lb_masks.proofs.Covered.{mask_of-key, own_key}

cons_by : {X : Type 0} (x : X) (xs : List X) (y : X) (k : ℕ) → k < length (x ∷ xs) → get_or (x ∷ xs) k y ≡ y → (x ≡ y) ⊎ Contains xs y
cons_by x xs y zero lt is = inl is
cons_by x xs y (suc k) lt is = inr (k, omega (arith, lt), is)

-- one of a list is its first or one of the others
pub cons_cases : {X : Type 0} (x : X) (xs : List X) (y : X) → Contains (x ∷ xs) y → (x ≡ y) ⊎ Contains xs y
cons_cases x xs y has = cons_by x xs y has.0 has.1 has.2

pub cons_there : {X : Type 0} (x : X) (xs : List X) (y : X) → Contains xs y → Contains (x ∷ xs) y
cons_there x xs y has = (suc has.0, omega (arith, has.1), has.2)

pub cons_here : {X : Type 0} (x : X) (xs : List X) → Contains (x ∷ xs) x
cons_here x xs = (0, omega arith, refl)

pub none_there : {X : Type 0} (y : X) → Contains [] y → ⊥
none_there y has = let lt : has.0 < 0 = has.1 in absurd (omega (arith, lt))

pub each_has : {X : Type 0} (P : X → Type 0) (xs : List X) (y : X) → AllByRecursion P xs → Contains xs y → P y
each_has P [] y each has = absurd (none_there y has)
each_has P (x ∷ xs) y each has = elim (cons_cases x xs y has) [ inl same ↦ subst P same each.0 | inr there ↦ each_has P xs y each.1 there ]

pub record ShownBy (items : List Filed) (pair : Pair) : Type 0 where
  pub filed : Filed
  pub has : Contains items filed
  pub is : shown filed ≡ pair

pub shown_by : (items : List Filed) (pair : Pair) → Contains (map shown items) pair → ShownBy items pair
shown_by [] pair has = absurd (none_there pair has)
shown_by (f ∷ items) pair has =
    elim (cons_cases (shown f) (map shown items) pair has) [
      | inl same ↦ record { filed = f; has = cons_here f items; is = same }
      | inr there ↦ let rest = shown_by items pair there in record { filed = rest.filed; has = cons_there f items rest.filed rest.has; is = rest.is }
    ]

pub has_shown : (items : List Filed) (filed : Filed) → Contains items filed → Contains (map shown items) (shown filed)
has_shown [] filed has = absurd (none_there filed has)
has_shown (f ∷ items) filed has =
    elim (cons_cases f items filed has) [
      | inl same ↦ subst (λ (g : Filed). Contains (shown f ∷ map shown items) (shown g)) same (cons_here (shown f) (map shown items))
      | inr there ↦ cons_there (shown f) (map shown items) (shown filed) (has_shown items filed there)
    ]

abbrev pub Keyed : List Filed → Type 0
Keyed items = AllByRecursion (λ f. IsKey f.key) items

pub shown_own : (mask : Prefix) (rank : ℕ) → IsMask mask → shown (filed_at (key_of mask) rank) ≡ pair_of mask rank
shown_own mask rank is = ap (λ (m : Prefix). pair_of m rank) (mask_of-key mask is)

-- a kept pair is told by what is seen of it, and so is its mask
pub mask_from : (f : Filed) (mask : Prefix) (rank : ℕ) (is_key : IsKey f.key) → shown f ≡ pair_of mask rank → is_key.mask ≡ mask
mask_from f mask rank is_key is = sym (mask_of-key is_key.mask is_key.is_mask) ∙ ap mask_of (sym is_key.is) ∙ ap (λ (p : Pair). p.mask) is

pub filed_from : (f : Filed) (mask : Prefix) (rank : ℕ) → IsKey f.key → shown f ≡ pair_of mask rank → f ≡ filed_at (key_of mask) rank
filed_from f mask rank is_key is =
    ap (λ (k : List ℕ). filed_at k f.rank) (is_key.is ∙ ap key_of (mask_from f mask rank is_key is)) ∙ ap (λ (r : ℕ). filed_at (key_of mask) r) (ap (λ (p : Pair). p.rank) is)

pub filed_pairs : (old new : List Filed) (mask : Prefix) (rank : ℕ) → IsMask mask → HasBesides old (filed_at (key_of mask) rank) new → IsFiledWith (map shown old) (pair_of mask rank) (map shown new)
filed_pairs old new mask rank is has_besides = λ p. (
  λ has.
      let by = shown_by new p has in
      elim ((has_besides by.filed).0 by.has) [
        | inl same ↦ inl (sym by.is ∙ ap shown same ∙ shown_own mask rank is)
        | inr there ↦ inr (subst (λ (q : Pair). Contains (map shown old) q) by.is (has_shown old by.filed there))
      ],
  λ either. elim either [
    | inl same ↦ subst (λ (q : Pair). Contains (map shown new) q) (shown_own mask rank is ∙ sym same) (has_shown new (filed_at (key_of mask) rank) ((has_besides (filed_at (key_of mask) rank)).1 (inl refl)))
    | inr there ↦ let by = shown_by old p there in subst (λ (q : Pair). Contains (map shown new) q) by.is (has_shown new by.filed ((has_besides by.filed).1 (inr by.has)))
  ],
)

pub unfiled_pairs : (old new : List Filed) (mask : Prefix) (rank : ℕ) → Keyed old → IsMask mask → HasBut old (filed_at (key_of mask) rank) new → IsFiledWithout (map shown old) (pair_of mask rank) (map shown new)
unfiled_pairs old new mask rank keyed is has_but = λ p. (
  λ has.
      let by = shown_by new p has in
      let was = (has_but by.filed).0 by.has in (
        λ same. was.0 (filed_from by.filed mask rank (each_has (λ (f : Filed). IsKey f.key) old by.filed keyed was.1) (by.is ∙ same)),
        subst (λ (q : Pair). Contains (map shown old) q) by.is (has_shown old by.filed was.1),
      ),
  λ both.
      let by = shown_by old p both.1 in
      subst (λ (q : Pair). Contains (map shown new) q) by.is (has_shown new by.filed ((has_but by.filed).1 (λ same. both.0 (sym by.is ∙ ap shown same ∙ shown_own mask rank is), by.has))),
)

-- what holds of each pair that is there
each_from : (P : Filed → Type 0) (items : List Filed) → ((f : Filed) → Contains items f → P f) → AllByRecursion P items
each_from P [] has = tt
each_from P (f ∷ items) has = (has f (cons_here f items), each_from P items (λ g there. has g (cons_there f items g there)))

pub keyed_besides : (old new : List Filed) (mask : Prefix) (rank : ℕ) → Keyed old → IsMask mask → HasBesides old (filed_at (key_of mask) rank) new → Keyed new
keyed_besides old new mask rank keyed is has_besides =
    each_from (λ (f : Filed). IsKey f.key) new
    (λ f has.
    elim ((has_besides f).0 has) [
      | inl same ↦ subst (λ (g : Filed). IsKey g.key) (sym same) (own_key mask is)
      | inr there ↦ each_has (λ (g : Filed). IsKey g.key) old f keyed there
    ])

pub keyed_but : (old new : List Filed) (filed : Filed) → Keyed old → HasBut old filed new → Keyed new
keyed_but old new filed keyed has_but = each_from (λ (f : Filed). IsKey f.key) new (λ f has. each_has (λ (g : Filed). IsKey g.key) old f keyed ((has_but f).0 has).1)

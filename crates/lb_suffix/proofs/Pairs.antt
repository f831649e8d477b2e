-- What is filed under keys, seen as names.
use Rattle.std.proofs.Common.{◌≡◌, ◌⊎◌, ℕ, zero, suc, ◌<◌, List, [], ◌∷◌, ◌++◌, length, get_or, reverse, map, Contains, Result, Ok, Err, OnOk, OnErr, inl, inr, refl, sym, ap, subst, ◌∙◌, arith, append_assoc}
use Rattle.std.specs.List.{AllByRecursion}
use Rattle.std.proofs.lemmas.List.{append-nil, reverse-append, reverse-reverse}
use Rattle.lb_name.specs.Laws.{SplitsBack}
use Rattle.lb_name.specs.Name.{IsLabel, label_octets, labels_octets, lower_name, IsName, labels_of}
use Rattle.lb_index_ranks.specs.declared.filed.Filed.{Filed}
use Rattle.lb_index_ranks.specs.Filed.{filed_at, IsFiledAt, HasBesides, HasBut}
use Rattle.lb_suffix.specs.Index.{Pair, pair_of, shown, IsFiledAtName, IsFiledOver, IsFiledWith, IsFiledWithout}
use Rattle.lb_suffix.specs.Key.{key_of, name_of, IsKey}
use Rattle.lb_suffix.specs.Over.{IsOver}
use Rattle.lb_suffix.proofs.Labels.{own_labels}

each_append : {X : Type 0} (P : X → Type 0) (xs ys : List X) → AllByRecursion P xs → AllByRecursion P ys → AllByRecursion P (xs ++ ys)
each_append P [] ys a b = b
each_append P (x ∷ xs) ys a b = (a.0, each_append P xs ys a.1 b)

each_front : {X : Type 0} (P : X → Type 0) (xs ys : List X) → AllByRecursion P (xs ++ ys) → AllByRecursion P xs
each_front P [] ys a = tt
each_front P (x ∷ xs) ys a = (a.0, each_front P xs ys a.1)

pub each_back : {X : Type 0} (P : X → Type 0) (xs ys : List X) → AllByRecursion P (xs ++ ys) → AllByRecursion P ys
each_back P [] ys a = a
each_back P (x ∷ xs) ys a = each_back P xs ys a.1

pub each_reverse : (xs : List (List ℕ)) → AllByRecursion IsLabel xs → AllByRecursion IsLabel (reverse xs)
each_reverse [] a = tt
each_reverse (x ∷ xs) a =
    let turned : reverse (x ∷ xs) ≡ reverse xs ++ x ∷ [] = reverse-append (x ∷ []) xs in
    subst (λ (ls : List (List ℕ)). AllByRecursion IsLabel ls) (sym turned) (each_append IsLabel (reverse xs) (x ∷ []) (each_reverse xs a.1) (a.0, tt))

-- labels are spelled in one way
pub labels_once : SplitsBack → (a b : List (List ℕ)) → AllByRecursion IsLabel a → AllByRecursion IsLabel b → labels_octets a ≡ labels_octets b → a ≡ b
labels_once back a b each_a each_b same =
    sym (own_labels back a each_a) ∙ ap (λ (xs : List ℕ). labels_of (xs ++ 0 ∷ [])) same ∙ own_labels back b each_b

-- the labels of a key
pub each_key : (name : List (List ℕ)) → IsName (lower_name name) → AllByRecursion IsLabel (reverse (lower_name name))
each_key name is = each_reverse (lower_name name) is.each

pub name_of-key : SplitsBack → (name : List (List ℕ)) → IsName (lower_name name) → name_of (key_of name) ≡ lower_name name
name_of-key back name is =
    ap (λ (ls : List (List ℕ)). reverse ls) (own_labels back (reverse (lower_name name)) (each_key name is)) ∙ reverse-reverse (lower_name name)

-- the front under which a rank is filed
pub record OverAt (items : List Filed) (front : List ℕ) (labels : List (List ℕ)) (rank : ℕ) : Type 0 where
  pub first : List (List ℕ)
  pub last : List (List ℕ)
  pub is : labels ≡ first ++ last
  pub has : IsFiledAt items (front ++ labels_octets first) rank

pub over_to : (items : List Filed) (front : List ℕ) (labels : List (List ℕ)) (rank : ℕ) → IsOver items front labels rank → OverAt items front labels rank
over_to items front [] rank over = record { first = []; last = []; is = refl; has = subst (λ (xs : List ℕ). IsFiledAt items xs rank) (sym (append-nil front)) over }
over_to items front (label ∷ labels) rank over =
    elim over [
      | inl here ↦ record { first = []; last = label ∷ labels; is = refl; has = subst (λ (xs : List ℕ). IsFiledAt items xs rank) (sym (append-nil front)) here }
      | inr there ↦
          let rest = over_to items (front ++ label_octets label) labels rank there in
          record {
            first = label ∷ rest.first;
            last = rest.last;
            is = ap (λ (ls : List (List ℕ)). label ∷ ls) rest.is;
            has = subst (λ (xs : List ℕ). IsFiledAt items xs rank) (append_assoc front (label_octets label) (labels_octets rest.first)) rest.has;
          }
    ]

pub over_from : (items : List Filed) (front : List ℕ) (first last : List (List ℕ)) (rank : ℕ) → IsFiledAt items (front ++ labels_octets first) rank → IsOver items front (first ++ last) rank
over_from items front [] [] rank has = subst (λ (xs : List ℕ). IsFiledAt items xs rank) (append-nil front) has
over_from items front [] (l ∷ last) rank has = inl (subst (λ (xs : List ℕ). IsFiledAt items xs rank) (append-nil front) has)
over_from items front (label ∷ first) last rank has =
    inr (over_from items (front ++ label_octets label) first last rank (subst (λ (xs : List ℕ). IsFiledAt items xs rank) (sym (append_assoc front (label_octets label) (labels_octets first))) has))

cons_by : {X : Type 0} (x : X) (xs : List X) (y : X) (k : ℕ) → k < length (x ∷ xs) → get_or (x ∷ xs) k y ≡ y → (x ≡ y) ⊎ Contains xs y
cons_by x xs y zero lt is = inl is
cons_by x xs y (suc k) lt is = inr (k, omega (arith, lt), is)

-- one of a list is its first or one of the others
pub cons_cases : {X : Type 0} (x : X) (xs : List X) (y : X) → Contains (x ∷ xs) y → (x ≡ y) ⊎ Contains xs y
cons_cases x xs y has = cons_by x xs y has.0 has.1 has.2

pub cons_there : {X : Type 0} (x : X) (xs : List X) (y : X) → Contains xs y → Contains (x ∷ xs) y
cons_there x xs y has = (suc has.0, omega (arith, has.1), has.2)

pub each_has : {X : Type 0} (P : X → Type 0) (xs : List X) (y : X) → AllByRecursion P xs → Contains xs y → P y
each_has P [] y each has = let lt : has.0 < 0 = has.1 in absurd (omega (arith, lt))
each_has P (x ∷ xs) y each has = elim (cons_cases x xs y has) [ inl same ↦ subst P same each.0 | inr there ↦ each_has P xs y each.1 there ]

pub record ShownBy (items : List Filed) (pair : Pair) : Type 0 where
  pub filed : Filed
  pub has : Contains items filed
  pub is : shown filed ≡ pair

pub shown_by : (items : List Filed) (pair : Pair) → Contains (map shown items) pair → ShownBy items pair
shown_by [] pair has = let lt : has.0 < 0 = has.1 in absurd (omega (arith, lt))
shown_by (f ∷ items) pair has =
    elim (cons_cases (shown f) (map shown items) pair has) [
      | inl same ↦ record { filed = f; has = (0, omega arith, refl); is = same }
      | inr there ↦ let rest = shown_by items pair there in record { filed = rest.filed; has = cons_there f items rest.filed rest.has; is = rest.is }
    ]

pub has_shown : (items : List Filed) (filed : Filed) → Contains items filed → Contains (map shown items) (shown filed)
has_shown [] filed has = let lt : has.0 < 0 = has.1 in absurd (omega (arith, lt))
has_shown (f ∷ items) filed has =
    elim (cons_cases f items filed has) [
      | inl same ↦ (0, omega arith, ap shown same)
      | inr there ↦ cons_there (shown f) (map shown items) (shown filed) (has_shown items filed there)
    ]

abbrev pub Keyed : List Filed → Type 0
Keyed items = AllByRecursion (λ f. IsKey f.key) items

-- a rank filed under a front of a name's key is filed over the name
pub pairs_to : SplitsBack → (items : List Filed) (name : List (List ℕ)) (rank : ℕ) → Keyed items → IsName (lower_name name) → IsOver items [] (reverse (lower_name name)) rank → IsFiledOver (map shown items) name rank
pairs_to back items name rank keyed is_name over =
    let whole : List (List ℕ) = lower_name name in
    let at = over_to items [] (reverse whole) rank over in
    let key : List ℕ = labels_octets at.first in
    let is_key : IsKey key = each_has (λ (f : Filed). IsKey f.key) items (filed_at key rank) keyed at.has in
    let each : AllByRecursion IsLabel at.first = each_front IsLabel at.first at.last (subst (λ (ls : List (List ℕ)). AllByRecursion IsLabel ls) at.is (each_reverse whole is_name.each)) in
    let first : at.first ≡ reverse (lower_name is_key.name) = labels_once back at.first (reverse (lower_name is_key.name)) each (each_key is_key.name is_key.is_name) is_key.is in
    let named : name_of key ≡ lower_name is_key.name = ap name_of is_key.is ∙ name_of-key back is_key.name is_key.is_name in
    let back : reverse at.first ≡ lower_name is_key.name = ap (λ (ls : List (List ℕ)). reverse ls) first ∙ reverse-reverse (lower_name is_key.name) in (
      is_key.name,
      subst (λ (p : Pair). Contains (map shown items) p) (ap (λ (n : List (List ℕ)). record { name = n; rank = rank }) named) (has_shown items (filed_at key rank) at.has),
      (
        reverse at.last,
        sym (reverse-reverse whole) ∙ ap (λ (ls : List (List ℕ)). reverse ls) at.is ∙ reverse-append at.first at.last ∙ ap (λ (ls : List (List ℕ)). reverse at.last ++ ls) back,
      ),
    )

-- and back
pub pairs_from : SplitsBack → (items : List Filed) (name : List (List ℕ)) (rank : ℕ) → Keyed items → IsFiledOver (map shown items) name rank → IsOver items [] (reverse (lower_name name)) rank
pairs_from back items name rank keyed over =
    let suffix : List (List ℕ) = over.0 in
    let by = shown_by items (pair_of suffix rank) over.1 in
    let is_key : IsKey by.filed.key = each_has (λ (f : Filed). IsKey f.key) items by.filed keyed by.has in
    let same : lower_name is_key.name ≡ lower_name suffix = sym (name_of-key back is_key.name is_key.is_name) ∙ ap name_of (sym is_key.is) ∙ ap (λ (p : Pair). p.name) by.is in
    let key : by.filed.key ≡ labels_octets (reverse (lower_name suffix)) = is_key.is ∙ ap (λ (n : List (List ℕ)). labels_octets (reverse n)) same in
    let ranked : by.filed.rank ≡ rank = ap (λ (p : Pair). p.rank) by.is in
    let filed : by.filed ≡ filed_at (labels_octets (reverse (lower_name suffix))) rank = ap (λ (k : List ℕ). filed_at k by.filed.rank) key ∙ ap (λ (r : ℕ). filed_at (labels_octets (reverse (lower_name suffix))) r) ranked in
    let has : IsFiledAt items (labels_octets (reverse (lower_name suffix))) rank = subst (λ (f : Filed). Contains items f) filed by.has in
    let turned : reverse (lower_name name) ≡ reverse (lower_name suffix) ++ reverse over.2.0 = ap (λ (ls : List (List ℕ)). reverse ls) over.2.1 ∙ reverse-append over.2.0 (lower_name suffix) in
    subst (λ (ls : List (List ℕ)). IsOver items [] ls rank) (sym turned) (over_from items [] (reverse (lower_name suffix)) (reverse over.2.0) rank has)

pub shown_own : SplitsBack → (name : List (List ℕ)) (rank : ℕ) → IsName (lower_name name) → shown (filed_at (key_of name) rank) ≡ pair_of name rank
shown_own back name rank is = ap (λ (n : List (List ℕ)). record { name = n; rank = rank }) (name_of-key back name is)

filed_from : SplitsBack → (f : Filed) (name : List (List ℕ)) (rank : ℕ) → IsKey f.key → shown f ≡ pair_of name rank → f ≡ filed_at (key_of name) rank
filed_from back f name rank is_key is =
    let same : lower_name is_key.name ≡ lower_name name = sym (name_of-key back is_key.name is_key.is_name) ∙ ap name_of (sym is_key.is) ∙ ap (λ (p : Pair). p.name) is in
    let key : f.key ≡ key_of name = is_key.is ∙ ap (λ (n : List (List ℕ)). labels_octets (reverse n)) same in
    ap (λ (k : List ℕ). filed_at k f.rank) key ∙ ap (λ (r : ℕ). filed_at (key_of name) r) (ap (λ (p : Pair). p.rank) is)

pub filed_pairs : SplitsBack → (old new : List Filed) (name : List (List ℕ)) (rank : ℕ) → IsName (lower_name name) → HasBesides old (filed_at (key_of name) rank) new → IsFiledWith (map shown old) (pair_of name rank) (map shown new)
filed_pairs back old new name rank is has_besides = λ p. (
  λ has.
      let by = shown_by new p has in
      elim ((has_besides by.filed).0 by.has) [
        | inl same ↦ inl (sym by.is ∙ ap shown same ∙ shown_own back name rank is)
        | inr there ↦ inr (subst (λ (q : Pair). Contains (map shown old) q) by.is (has_shown old by.filed there))
      ],
  λ either. elim either [
    | inl same ↦ subst (λ (q : Pair). Contains (map shown new) q) (shown_own back name rank is ∙ sym same) (has_shown new (filed_at (key_of name) rank) ((has_besides (filed_at (key_of name) rank)).1 (inl refl)))
    | inr there ↦ let by = shown_by old p there in subst (λ (q : Pair). Contains (map shown new) q) by.is (has_shown new by.filed ((has_besides by.filed).1 (inr by.has)))
  ],
)

pub unfiled_pairs : SplitsBack → (old new : List Filed) (name : List (List ℕ)) (rank : ℕ) → Keyed old → IsName (lower_name name) → HasBut old (filed_at (key_of name) rank) new → IsFiledWithout (map shown old) (pair_of name rank) (map shown new)
unfiled_pairs back old new name rank keyed is has_but = λ p. (
  λ has.
      let by = shown_by new p has in
      let was = (has_but by.filed).0 by.has in (
        λ same. was.0 (filed_from back by.filed name rank (each_has (λ (f : Filed). IsKey f.key) old by.filed keyed was.1) (by.is ∙ same)),
        subst (λ (q : Pair). Contains (map shown old) q) by.is (has_shown old by.filed was.1),
      ),
  λ both.
      let by = shown_by old p both.1 in
      subst (λ (q : Pair). Contains (map shown new) q) by.is (has_shown new by.filed ((has_but by.filed).1 (λ same. both.0 (sym by.is ∙ ap shown same ∙ shown_own back name rank is), by.has))),
)

pub own_key : (name : List (List ℕ)) → IsName (lower_name name) → IsKey (key_of name)
own_key name is = record { name = name; is_name = is; is = refl }

-- what holds of each pair that is there
each_from : (P : Filed → Type 0) (items : List Filed) → ((f : Filed) → Contains items f → P f) → AllByRecursion P items
each_from P [] has = tt
each_from P (f ∷ items) has = (has f (0, omega arith, refl), each_from P items (λ g there. has g (cons_there f items g there)))

pub keyed_besides : (old new : List Filed) (name : List (List ℕ)) (rank : ℕ) → Keyed old → IsName (lower_name name) → HasBesides old (filed_at (key_of name) rank) new → Keyed new
keyed_besides old new name rank keyed is has_besides =
    each_from (λ (f : Filed). IsKey f.key) new
    (λ f has.
    elim ((has_besides f).0 has) [
      | inl same ↦ subst (λ (g : Filed). IsKey g.key) (sym same) (own_key name is)
      | inr there ↦ each_has (λ (g : Filed). IsKey g.key) old f keyed there
    ])

pub keyed_but : (old new : List Filed) (filed : Filed) → Keyed old → HasBut old filed new → Keyed new
keyed_but old new filed keyed has_but = each_from (λ (f : Filed). IsKey f.key) new (λ f has. each_has (λ (g : Filed). IsKey g.key) old f keyed ((has_but f).0 has).1)

pub keyed_put : {A E : Type 0} (r : Result A E) (old new : List Filed) (name : List (List ℕ)) (rank : ℕ) → Keyed old → IsName (lower_name name) → OnOk r (HasBesides old (filed_at (key_of name) rank) new) → OnErr r (new ≡ old) → Keyed new
keyed_put (Ok u) old new name rank keyed is ok err = keyed_besides old new name rank keyed is ok
keyed_put (Err e) old new name rank keyed is ok err = subst (λ (xs : List Filed). Keyed xs) (sym err) keyed

-- the root is a name
pub root_name : IsName (lower_name [])
root_name = record { each = tt; fits = omega arith }

-- a rank under the key of a name is filed at the name
pub at_name : SplitsBack → (items : List Filed) (name : List (List ℕ)) (rank : ℕ) → IsName (lower_name name) → IsFiledAt items (key_of name) rank → IsFiledAtName (map shown items) name rank
at_name back items name rank is has = subst (λ (p : Pair). Contains (map shown items) p) (shown_own back name rank is) (has_shown items (filed_at (key_of name) rank) has)

pub at_key : SplitsBack → (items : List Filed) (name : List (List ℕ)) (rank : ℕ) → Keyed items → IsFiledAtName (map shown items) name rank → IsFiledAt items (key_of name) rank
at_key back items name rank keyed has =
    let by = shown_by items (pair_of name rank) has in
    subst (λ (f : Filed). Contains items f) (filed_from back by.filed name rank (each_has (λ (f : Filed). IsKey f.key) items by.filed keyed by.has) by.is) by.has

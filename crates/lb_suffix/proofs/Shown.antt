-- Kept pairs in order, as they are seen.
use Rattle.std.proofs.Common.{◌≡◌, ◌↔◌, true, false, Bool, cond, ℕ, ◌<◌, List, [], ◌∷◌, ◌++◌, map, Contains, Option, None, Some, inl, inr, refl, sym, ap, subst, ◌∙◌, arith}
use Rattle.std.specs.List.{AllByRecursion}
use Rattle.std.specs.List.Sorted.{IsStrictlySortedBy}
use Rattle.std.specs.Ordering.{is_lt}
use Rattle.std.specs.Cmp.{IsTotalOrder}
use Rattle.std.specs.declared.cmp.Ordering.{Ordering}
use Rattle.std.specs.declared.cmp.Ordering.TheVariants.{Less, Equal, Greater}
use Rattle.std.proofs.lemmas.Bool.{cases_Bool}
use Rattle.std.proofs.lemmas.Cmp.{on_total, then_total, nat_list_cmp_total, nat_cmp_total, tied_itself}
use Rattle.std.proofs.lemmas.Map.Keys.{sorted_head, sorted_tail}
use Rattle.std.proofs.lemmas.List.Elements.{Contains-append_cases, Contains-append_right}
use Rattle.lb_name.specs.Laws.{LabelsGoOn, SplitsBack}
use Rattle.lb_name.specs.Name.{lower_name, IsName}
use Rattle.lb_index_ranks.specs.declared.filed.Filed.{Filed}
use Rattle.lb_index_ranks.specs.Filed.{filed_at, filed_cmp, is_before, AreInOrder, HasBut, IsFrom, TakesFirst}
use Rattle.lb_suffix.specs.Index.{Pair, kept_at, pair_cmp, pair_of, shown, ArePairsInOrder, HaveSame, IsBelow, IsFiledUnder, IsFiledWithout, TakesUnder}
use Rattle.lb_suffix.specs.Key.{end_of, key_of, name_of, reversed_octets, IsKey}
use Rattle.lb_suffix.specs.Under.{kept_before, pairs_before}
use Rattle.lb_suffix.proofs.Below.{within_high, within_low, within_name}
use Rattle.lb_suffix.proofs.Pairs.{Keyed, cons_cases, cons_there, each_back, each_has, has_shown, name_of-key, shown_by, shown_own, unfiled_pairs}

filed_total : IsTotalOrder filed_cmp
filed_total = then_total (on_total (λ (f : Filed). f.key) nat_list_cmp_total) (on_total (λ (f : Filed). f.rank) nat_cmp_total)

pair_total : IsTotalOrder pair_cmp
pair_total = on_total kept_at filed_total

less_is : (o : Ordering) → is_lt o ≡ true → o ≡ Less
less_is Less is = refl
less_is Equal is = absurd (cc)
less_is Greater is = absurd (cc)

-- a pair before one that stands before this one does too
upper : (at x y : Filed) → filed_cmp x y ≡ Less → is_before at y ≡ true → is_before at x ≡ true
upper at x y less is = ap is_lt (filed_total.trans x y at less (less_is (filed_cmp y at) is))

-- a kept pair is told by what is seen of it
kept_shown : SplitsBack → (f : Filed) → IsKey f.key → kept_at (shown f) ≡ f
kept_shown back f is_key =
    let name : name_of f.key ≡ lower_name is_key.name = ap name_of is_key.is ∙ name_of-key back is_key.name is_key.is_name in
    ap (λ (k : List ℕ). filed_at k f.rank) (ap reversed_octets name ∙ sym is_key.is)

pairs_cons : (p : Pair) (ps : List Pair) → AllByRecursion (λ q. pair_cmp p q ≡ Less) ps → ArePairsInOrder ps → ArePairsInOrder (p ∷ ps)
unfolding IsStrictlySortedBy
pairs_cons p ps each order = (each, order)

pairs_none : ArePairsInOrder []
unfolding IsStrictlySortedBy
pairs_none = tt

shown_each : SplitsBack → (f : Filed) (items : List Filed) → IsKey f.key → Keyed items → AllByRecursion (λ g. filed_cmp f g ≡ Less) items → AllByRecursion (λ p. pair_cmp (shown f) p ≡ Less) (map shown items)
shown_each back f [] is_key keyed each = tt
shown_each back f (g ∷ items) is_key keyed each =
    (ap (λ (x : Filed). filed_cmp x (kept_at (shown g))) (kept_shown back f is_key) ∙ ap (λ (x : Filed). filed_cmp f x) (kept_shown back g keyed.0) ∙ each.0, shown_each back f items is_key keyed.1 each.1)

-- kept pairs in order are seen in order
pub shown_order : SplitsBack → (items : List Filed) → Keyed items → AreInOrder items → ArePairsInOrder (map shown items)
shown_order back [] keyed order = pairs_none
shown_order back (f ∷ items) keyed order =
    pairs_cons (shown f) (map shown items) (shown_each back f items keyed.0 keyed.1 (sorted_head filed_cmp f items order)) (shown_order back items keyed.1 (sorted_tail filed_cmp f items order))

-- no pair stands before itself
differ : (p q : Pair) → pair_cmp p q ≡ Less → p ≡ q → ⊥
differ p q less same =
    let own : pair_cmp p q ≡ Equal = ap (λ (r : Pair). pair_cmp p r) (sym same) ∙ tied_itself pair_total p in
    absurd (cc (less, own))

first_same : (p q : Pair) (ps qs : List Pair) → ArePairsInOrder (p ∷ ps) → ArePairsInOrder (q ∷ qs) → HaveSame (p ∷ ps) (q ∷ qs) → p ≡ q
first_same p q ps qs a b same =
    elim (cons_cases q qs p ((same p).0 (0, omega arith, refl))) [
      | inl here ↦ sym here
      | inr there ↦ elim (cons_cases p ps q ((same q).1 (0, omega arith, refl))) [
        | inl here ↦ here
        | inr other ↦
            let one : pair_cmp q p ≡ Less = each_has (λ (r : Pair). pair_cmp q r ≡ Less) qs p (sorted_head pair_cmp q qs b) there in
            let two : pair_cmp p q ≡ Less = each_has (λ (r : Pair). pair_cmp p r ≡ Less) ps q (sorted_head pair_cmp p ps a) other in
            absurd (differ p p (pair_total.trans p q p two one) refl)
      ]
    ]

rest_to : (p q : Pair) (ps qs : List Pair) → p ≡ q → ArePairsInOrder (p ∷ ps) → ((r : Pair) → Contains (p ∷ ps) r → Contains (q ∷ qs) r) → (r : Pair) → Contains ps r → Contains qs r
rest_to p q ps qs is a to r has =
    elim (cons_cases q qs r (to r (cons_there p ps r has))) [
      | inl same ↦ absurd (differ p r (each_has (λ (s : Pair). pair_cmp p s ≡ Less) ps r (sorted_head pair_cmp p ps a) has) (is ∙ same))
      | inr there ↦ there
    ]

nothing : (p : Pair) → Contains [] p → ⊥
nothing p has = let lt : has.0 < 0 = has.1 in absurd (omega (arith, lt))

-- lists in order that have the same pairs are one list
pub same_is : (a b : List Pair) → ArePairsInOrder a → ArePairsInOrder b → HaveSame a b → a ≡ b
same_is [] [] a b same = refl
same_is [] (q ∷ qs) a b same = absurd (nothing q ((same q).1 (0, omega arith, refl)))
same_is (p ∷ ps) [] a b same = absurd (nothing p ((same p).0 (0, omega arith, refl)))
same_is (p ∷ ps) (q ∷ qs) a b same =
    let here : p ≡ q = first_same p q ps qs a b same in
    let rest : ps ≡ qs = same_is ps qs (sorted_tail pair_cmp p ps a) (sorted_tail pair_cmp q qs b)
    (λ r. (rest_to p q ps qs here a (λ s. (same s).0) r, rest_to q p qs ps (sym here) b (λ s. (same s).1) r)) in
    ap (λ (r : Pair). r ∷ ps) here ∙ ap (λ (rs : List Pair). q ∷ rs) rest

-- of pairs in order, those up to the first that does not stand before a key are all that do
while_has : (high : List ℕ) (items : List Filed) (f : Filed) → AreInOrder items → Contains items f → is_before (filed_at high 0) f ≡ true → Contains (kept_before high items) f
while_has high [] f order has is = let lt : has.0 < 0 = has.1 in absurd (omega (arith, lt))
while_has high (x ∷ items) f order has is =
    elim (cons_cases x items f has) [
      | inl same ↦ (let here : is_before (filed_at high 0) x ≡ true = ap (is_before (filed_at high 0)) same ∙ is in rw here (0, omega arith, same))
      | inr there ↦
          let less : filed_cmp x f ≡ Less = each_has (λ (g : Filed). filed_cmp x g ≡ Less) items f (sorted_head filed_cmp x items order) there in
          let here : is_before (filed_at high 0) x ≡ true = upper (filed_at high 0) x f less is in
          let rest = while_has high items f (sorted_tail filed_cmp x items order) there is in
          rw here (cons_there x (kept_before high items) f rest)
    ]

while_back : (high : List ℕ) (items : List Filed) (f : Filed) → Contains (kept_before high items) f → Contains items f × (is_before (filed_at high 0) f ≡ true)
while_back high [] f has = let lt : has.0 < 0 = has.1 in absurd (omega (arith, lt))
while_back high (x ∷ items) f has =
    elim (cases_Bool (is_before (filed_at high 0) x)) [
      | inl here ↦
          let own : Contains (x ∷ kept_before high items) f = subst (λ (t : Bool). Contains (cond t (x ∷ kept_before high items) []) f) here has in
          elim (cons_cases x (kept_before high items) f own) [
            | inl same ↦ ((0, omega arith, same), ap (is_before (filed_at high 0)) (sym same) ∙ here)
            | inr there ↦ (let rest = while_back high items f there in (cons_there x items f rest.0, rest.1))
          ]
      | inr other ↦
          let none : Contains [] f = subst (λ (t : Bool). Contains (cond t (x ∷ kept_before high items) []) f) other has in
          let lt : none.0 < 0 = none.1 in
          absurd (omega (arith, lt))
    ]

while_each : (P : Filed → Type 0) (high : List ℕ) (items : List Filed) → AllByRecursion P items → AllByRecursion P (kept_before high items)
while_each P high [] each = tt
while_each P high (x ∷ items) each = elim (cases_Bool (is_before (filed_at high 0) x)) [ inl here ↦ rw here (each.0, while_each P high items each.1) | inr other ↦ rw other tt ]

order_cons : (x : Filed) (xs : List Filed) → AllByRecursion (λ y. filed_cmp x y ≡ Less) xs → AreInOrder xs → AreInOrder (x ∷ xs)
unfolding IsStrictlySortedBy
order_cons x xs each order = (each, order)

order_none : AreInOrder []
unfolding IsStrictlySortedBy
order_none = tt

while_order : (high : List ℕ) (items : List Filed) → AreInOrder items → AreInOrder (kept_before high items)
while_order high [] order = order_none
while_order high (x ∷ items) order =
    elim (cases_Bool (is_before (filed_at high 0) x)) [
      | inl here ↦ rw here (order_cons x (kept_before high items) (while_each (λ (y : Filed). filed_cmp x y ≡ Less) high items (sorted_head filed_cmp x items order)) (while_order high items (sorted_tail filed_cmp x items order)))
      | inr other ↦ rw other order_none
    ]

order_back : (xs ys : List Filed) → AreInOrder (xs ++ ys) → AreInOrder ys
order_back [] ys order = order
order_back (x ∷ xs) ys order = order_back xs ys (sorted_tail filed_cmp x (xs ++ ys) order)

-- a walk from a key of a name to its end has the pairs at the name and below it, each once
pub under_once : SplitsBack → (items rest : List Filed) (low high : List ℕ) → Keyed items → AreInOrder items → IsFrom (filed_at low 0) items rest → ArePairsInOrder (pairs_before high rest)
under_once back items rest low high keyed order from =
    let sorted : AreInOrder rest = order_back from.front rest (subst AreInOrder from.whole order) in
    let own : Keyed rest = each_back (λ (f : Filed). IsKey f.key) from.front rest (subst (λ (xs : List Filed). Keyed xs) from.whole keyed) in
    shown_order back (kept_before high rest) (while_each (λ (f : Filed). IsKey f.key) high rest own) (while_order high rest sorted)

pub under_pairs : SplitsBack → LabelsGoOn → (items rest : List Filed) (name : List (List ℕ)) → Keyed items → AreInOrder items → IsName (lower_name name) → IsFrom (filed_at (key_of name) 0) items rest → (p : Pair) → Contains (pairs_before (end_of (key_of name)) rest) p ↔ IsFiledUnder (map shown items) name p
under_pairs back on items rest name keyed order is_name from p =
    let at : Filed = filed_at (key_of name) 0 in
    let high : List ℕ = end_of (key_of name) in
    let sorted : AreInOrder rest = order_back from.front rest (subst AreInOrder from.whole order) in (
      λ has.
          let by = shown_by (kept_before high rest) p has in
          let there = while_back high rest by.filed by.has in
          let was : Contains items by.filed = subst (λ (xs : List Filed). Contains xs by.filed) (sym from.whole) (Contains-append_right from.front rest by.filed there.0) in
          let is_key : IsKey by.filed.key = each_has (λ (f : Filed). IsKey f.key) items by.filed keyed was in
          let low : is_before at by.filed ≡ false = each_has (λ (f : Filed). is_before at f ≡ false) rest by.filed from.cut.after there.0 in
          let below : IsBelow (name_of by.filed.key) name = within_name back on by.filed name is_key is_name low there.1 in
          (subst (λ (q : Pair). Contains (map shown items) q) by.is (has_shown items by.filed was), subst (λ (q : Pair). IsBelow q.name name) by.is below),
      λ filed.
          let by = shown_by items p filed.0 in
          let is_key : IsKey by.filed.key = each_has (λ (f : Filed). IsKey f.key) items by.filed keyed by.has in
          let below : IsBelow (name_of by.filed.key) name = subst (λ (q : Pair). IsBelow q.name name) (sym by.is) filed.1 in
          let low : is_before at by.filed ≡ false = within_low back by.filed name is_key below in
          let there : Contains rest by.filed = elim (Contains-append_cases from.front rest by.filed (subst (λ (xs : List Filed). Contains xs by.filed) from.whole by.has)) [
            | inl front ↦ (let before : is_before at by.filed ≡ true = each_has (λ (f : Filed). is_before at f ≡ true) from.front by.filed from.cut.before front in absurd (cc (before, low)))
            | inr behind ↦ behind
          ] in
          let has = while_has high rest by.filed sorted there (within_high back by.filed name is_key below) in
          subst (λ (q : Pair). Contains (pairs_before high rest) q) by.is (has_shown (kept_before high rest) by.filed has),
    )

-- what is taken between a key of a name and its end is a pair at the name or below it
pub takes_under : SplitsBack → LabelsGoOn → (old new : List Filed) (name : List (List ℕ)) (result : Option ℕ) → Keyed old → IsName (lower_name name) → TakesFirst (key_of name) (end_of (key_of name)) old result new → TakesUnder name (map shown old) result (map shown new)
takes_under back on old new name None keyed is_name takes = (
  λ p filed.
      let by = shown_by old p filed.0 in
      let is_key : IsKey by.filed.key = each_has (λ (f : Filed). IsKey f.key) old by.filed keyed by.has in
      let below : IsBelow (name_of by.filed.key) name = subst (λ (q : Pair). IsBelow q.name name) (sym by.is) filed.1 in
      takes.0 by.filed by.has (within_low back by.filed name is_key below) (within_high back by.filed name is_key below),
  ap (λ (xs : List Filed). map shown xs) takes.1,
)
takes_under back on old new name (Some rank) keyed is_name takes =
    let f : Filed = takes.0 in
    let first = takes.1 in
    let is_key : IsKey f.key = each_has (λ (g : Filed). IsKey g.key) old f keyed first.has in
    let other = is_key.name in
    let own : f ≡ filed_at (key_of other) f.rank = ap (λ (k : List ℕ). filed_at k f.rank) is_key.is in
    let seen : pair_of other f.rank ≡ shown f = sym (shown_own back other f.rank is_key.is_name) ∙ ap shown (sym own) in
    let but : HasBut old (filed_at (key_of other) f.rank) new = subst (λ (g : Filed). HasBut old g new) own takes.3 in (
      shown f,
      sym takes.2,
      (has_shown old f first.has, within_name back on f name is_key is_name first.from first.below),
      subst (λ (p : Pair). IsFiledWithout (map shown old) p (map shown new)) seen (unfiled_pairs back old new other f.rank keyed is_key.is_name but),
    )

pub takes_keyed : (low high : List ℕ) (old new : List Filed) (result : Option ℕ) → Keyed old → ((f : Filed) → HasBut old f new → Keyed new) → TakesFirst low high old result new → Keyed new
takes_keyed low high old new None keyed but takes = subst (λ (xs : List Filed). Keyed xs) (sym takes.1) keyed
takes_keyed low high old new (Some rank) keyed but takes = but takes.0 takes.3

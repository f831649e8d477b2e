-- Kept pairs in order, as they are seen.
use Rattle.std.proofs.Common.{◌≡◌, ℕ, List, [], ◌∷◌, map, Contains, inl, inr, refl, sym, ap, ◌∙◌, arith}
use Rattle.std.specs.List.{AllByRecursion}
use Rattle.std.specs.List.Sorted.{IsStrictlySortedBy}
use Rattle.std.specs.Cmp.{IsTotalOrder}
use Rattle.std.specs.declared.cmp.Ordering.TheVariants.{Less, Equal}
use Rattle.std.proofs.lemmas.Cmp.{on_total, tied_itself}
use Rattle.std.proofs.lemmas.Map.Keys.{sorted_head, sorted_tail}
use Rattle.lb_index_ranks.specs.declared.filed.Filed.{Filed}
use Rattle.lb_index_ranks.specs.Filed.{filed_at, filed_cmp, AreInOrder}
use Rattle.lb_masks.specs.Index.{Pair, kept_at, pair_cmp, shown, ArePairsInOrder, HaveSame}
use Rattle.lb_masks.specs.Key.{IsKey, key_of, mask_of}
use Rattle.lb_masks.proofs.Covered.{mask_of-key}
use Rattle.lb_masks.proofs.Pairs.{Keyed, cons_cases, cons_there, each_has, none_there}
use Rattle.lb_masks.proofs.Spans.{filed_total}

pair_total : IsTotalOrder pair_cmp
pair_total = on_total kept_at filed_total

-- a kept pair is told by what is seen of it
kept_shown : (f : Filed) → IsKey f.key → kept_at (shown f) ≡ f
kept_shown f is_key =
    let mask : mask_of f.key ≡ is_key.mask = ap mask_of is_key.is ∙ mask_of-key is_key.mask is_key.is_mask in
    ap (λ (k : List ℕ). filed_at k f.rank) (ap key_of mask ∙ sym is_key.is)

pairs_cons : (p : Pair) (ps : List Pair) → AllByRecursion (λ q. pair_cmp p q ≡ Less) ps → ArePairsInOrder ps → ArePairsInOrder (p ∷ ps)
unfolding IsStrictlySortedBy
pairs_cons p ps each order = (each, order)

pairs_none : ArePairsInOrder []
unfolding IsStrictlySortedBy
pairs_none = tt

shown_each : (f : Filed) (items : List Filed) → IsKey f.key → Keyed items → AllByRecursion (λ g. filed_cmp f g ≡ Less) items → AllByRecursion (λ p. pair_cmp (shown f) p ≡ Less) (map shown items)
shown_each f [] is_key keyed each = tt
shown_each f (g ∷ items) is_key keyed each =
    (ap (λ (x : Filed). filed_cmp x (kept_at (shown g))) (kept_shown f is_key) ∙ ap (λ (x : Filed). filed_cmp f x) (kept_shown g keyed.0) ∙ each.0, shown_each f items is_key keyed.1 each.1)

-- kept pairs in order are seen in order
pub shown_order : (items : List Filed) → Keyed items → AreInOrder items → ArePairsInOrder (map shown items)
shown_order [] keyed order = pairs_none
shown_order (f ∷ items) keyed order =
    pairs_cons (shown f) (map shown items) (shown_each f items keyed.0 keyed.1 (sorted_head filed_cmp f items order)) (shown_order items keyed.1 (sorted_tail filed_cmp f items order))

-- no pair stands before itself
differ : (p q : Pair) → pair_cmp p q ≡ Less → p ≡ q → ⊥
differ p q less same =
    let own : pair_cmp p q ≡ Equal = ap (λ (r : Pair). pair_cmp p r) (sym same) ∙ tied_itself pair_total p in
    absurd (cc (less, own))

first_same : (p q : Pair) (ps qs : List Pair) → ArePairsInOrder (p ∷ ps) → ArePairsInOrder (q ∷ qs) → HaveSame (p ∷ ps) (q ∷ qs) → p ≡ q
first_same p q ps qs a b same =
    elim (cons_cases q qs p ((same p).0 (0, omega arith, refl))) [
      | inl here ↦ sym here
      | inr there ↦ elim (cons_cases p ps q ((same q).1 (0, omega arith, refl))) [
        | inl here ↦ here
        | inr other ↦
            let one : pair_cmp q p ≡ Less = each_has (λ (r : Pair). pair_cmp q r ≡ Less) qs p (sorted_head pair_cmp q qs b) there in
            let two : pair_cmp p q ≡ Less = each_has (λ (r : Pair). pair_cmp p r ≡ Less) ps q (sorted_head pair_cmp p ps a) other in
            absurd (differ p p (pair_total.trans p q p two one) refl)
      ]
    ]

rest_to : (p q : Pair) (ps qs : List Pair) → p ≡ q → ArePairsInOrder (p ∷ ps) → ((r : Pair) → Contains (p ∷ ps) r → Contains (q ∷ qs) r) → (r : Pair) → Contains ps r → Contains qs r
rest_to p q ps qs is a to r has =
    elim (cons_cases q qs r (to r (cons_there p ps r has))) [
      | inl same ↦ absurd (differ p r (each_has (λ (s : Pair). pair_cmp p s ≡ Less) ps r (sorted_head pair_cmp p ps a) has) (is ∙ same))
      | inr there ↦ there
    ]

-- lists in order that have the same pairs are one list
pub same_is : (a b : List Pair) → ArePairsInOrder a → ArePairsInOrder b → HaveSame a b → a ≡ b
same_is [] [] a b same = refl
same_is [] (q ∷ qs) a b same = absurd (none_there q ((same q).1 (0, omega arith, refl)))
same_is (p ∷ ps) [] a b same = absurd (none_there p ((same p).0 (0, omega arith, refl)))
same_is (p ∷ ps) (q ∷ qs) a b same =
    let here : p ≡ q = first_same p q ps qs a b same in
    let rest : ps ≡ qs = same_is ps qs (sorted_tail pair_cmp p ps a) (sorted_tail pair_cmp q qs b)
    (λ r. (rest_to p q ps qs here a (λ s. (same s).0) r, rest_to q p qs ps (sym here) b (λ s. (same s).1) r)) in
    ap (λ (r : Pair). r ∷ ps) here ∙ ap (λ (rs : List Pair). q ∷ rs) rest

-- The pairs of one kind stand side by side.
use Rattle.std.proofs.Common.{◌≡◌, ◌↔◌, true, false, Bool, ℕ, ◌+◌, ◌<◌, ◌≤◌, List, [], ◌∷◌, ◌++◌, slice_get, option_map, Contains, Option, None, Some, IsSome, is_some, IsTrue, inl, inr, refl, sym, ap, subst, ◌∙◌, arith}
use Rattle.std.specs.Ordering.{nat_cmp, ordering_then, is_lt}
use Rattle.std.specs.Cmp.{IsTotalOrder}
use Rattle.std.specs.Cmp.Lexicographic.{slice_cmp}
use Rattle.std.specs.declared.cmp.Ordering.{Ordering}
use Rattle.std.specs.declared.cmp.Ordering.TheVariants.{Less, Equal, Greater}
use Rattle.std.proofs.lemmas.Bool.{cases_Bool}
use Rattle.std.proofs.lemmas.Cmp.{on_total, then_total, nat_list_cmp_total, nat_cmp_total, tied_itself, ranked}
use Rattle.std.proofs.lemmas.Map.Keys.{sorted_head, sorted_tail}
use Rattle.std.proofs.lemmas.List.Elements.{Contains-append_cases, Contains-append_right}
use Rattle.lb_index_ranks.specs.declared.filed.Filed.{Filed}
use Rattle.lb_index_ranks.specs.Cursor.{next_below}
use Rattle.lb_index_ranks.specs.Filed.{filed_at, filed_cmp, is_before, AreInOrder, IsCut, IsFrom}
use Rattle.lb_masks.specs.Kinds.{HasKind}
use Rattle.lb_masks.proofs.Pairs.{cons_cases, cons_here, each_has, none_there}

-- where the keys of a kind begin
abbrev pub start_of : ℕ → Filed
start_of kind = filed_at (kind ∷ []) 0

not_under_0 : (r : ℕ) (o : Ordering) → o ≡ nat_cmp r 0 → is_lt o ≡ false
not_under_0 r Less e = let less : r < 0 = ranked r 0 Less e in absurd (omega (arith, less))
not_under_0 r Equal e = refl
not_under_0 r Greater e = refl

rest_not_less : (r : ℕ) (o : List ℕ) → is_lt (ordering_then (slice_cmp nat_cmp o []) (nat_cmp r 0)) ≡ false
rest_not_less r [] = not_under_0 r (nat_cmp r 0) refl
rest_not_less r (x ∷ o) = refl

-- a key of the kind stands not before the start
low_own : (kind : ℕ) (octets : List ℕ) (rank : ℕ) → is_before (start_of kind) (filed_at (kind ∷ octets) rank) ≡ false
low_own kind octets rank =
    ap (λ (o : Ordering). is_lt (ordering_then (ordering_then o (slice_cmp nat_cmp octets [])) (nat_cmp rank 0))) (tied_itself nat_cmp_total kind) ∙ rest_not_less rank octets

less_next : (n : ℕ) (o : Ordering) → o ≡ nat_cmp n (n + 1) → o ≡ Less
less_next n Less e = refl
less_next n Equal e = let same : n ≡ n + 1 = ranked n (n + 1) Equal e in absurd (omega (arith, same))
less_next n Greater e = let more : n + 1 < n = ranked n (n + 1) Greater e in absurd (omega (arith, more))

-- and before the start of the next kind
high_own : (kind : ℕ) (octets : List ℕ) (rank : ℕ) → is_before (start_of (kind + 1)) (filed_at (kind ∷ octets) rank) ≡ true
high_own kind octets rank = ap (λ (o : Ordering). is_lt (ordering_then (ordering_then o (slice_cmp nat_cmp octets [])) (nat_cmp rank 0))) (less_next kind (nat_cmp kind (kind + 1)) refl)

low_by : (k kind rank : ℕ) (octets : List ℕ) (o : Ordering) → o ≡ nat_cmp k kind → is_lt (ordering_then (ordering_then o (slice_cmp nat_cmp octets [])) (nat_cmp rank 0)) ≡ false → kind ≤ k
low_by k kind rank octets Less e is = absurd (cc is)
low_by k kind rank octets Equal e is = let same : k ≡ kind = ranked k kind Equal e in omega (arith, same)
low_by k kind rank octets Greater e is = let more : kind < k = ranked k kind Greater e in omega (arith, more)

high_by : (k kind rank : ℕ) (octets : List ℕ) (o : Ordering) → o ≡ nat_cmp k kind → is_lt (ordering_then (ordering_then o (slice_cmp nat_cmp octets [])) (nat_cmp rank 0)) ≡ true → k < kind
high_by k kind rank octets Less e is = ranked k kind Less e
high_by k kind rank octets Equal e is = let no : is_lt (ordering_then (slice_cmp nat_cmp octets []) (nat_cmp rank 0)) ≡ false = rest_not_less rank octets in absurd (cc (is, no))
high_by k kind rank octets Greater e is = absurd (cc is)

-- a key between the two is of the kind
between : (items : List Filed) (kind : ℕ) (key : List ℕ) (rank : ℕ) → Contains items (filed_at key rank) → is_before (start_of kind) (filed_at key rank) ≡ false → is_before (start_of (kind + 1)) (filed_at key rank) ≡ true → HasKind items kind
between items kind [] rank has low high = absurd (cc low)
between items kind (k ∷ octets) rank has low high =
    let from : kind ≤ k = low_by k kind rank octets (nat_cmp k kind) refl low in
    let below : k < kind + 1 = high_by k (kind + 1) rank octets (nat_cmp k (kind + 1)) refl high in
    let same : k ≡ kind = omega (arith, from, below) in
    (octets, rank, subst (λ (j : ℕ). Contains items (filed_at (j ∷ octets) rank)) same has)

back_has : (front : List Filed) (f : Filed) (rest : List Filed) → Contains (front ++ f ∷ rest) f
back_has front f rest = Contains-append_right front (f ∷ rest) f (cons_here f rest)

some_below : (items front rest : List Filed) (kind : ℕ) → items ≡ front ++ rest → AreInOrder items → IsCut (start_of kind) front rest → IsSome (next_below ((kind + 1) ∷ []) rest) → HasKind items kind
some_below items front [] kind whole order cut some = (let no : false ≡ true = some in absurd (cc (no)))
some_below items front (f ∷ rest) kind whole order cut some =
    elim (cases_Bool (is_before (start_of (kind + 1)) f)) [
      | inl high ↦ between items kind f.key f.rank (subst (λ (xs : List Filed). Contains xs f) (sym whole) (back_has front f rest)) cut.after.0 high
      | inr over ↦ (let none : next_below ((kind + 1) ∷ []) (f ∷ rest) ≡ None = rw over refl in let no : IsSome {T = ℕ} None = subst (λ (o : Option ℕ). IsSome o) none some in absurd (cc (no)))
    ]

-- pairs in order stand before one where a later one does
pub filed_total : IsTotalOrder filed_cmp
filed_total = then_total (on_total (λ (f : Filed). f.key) nat_list_cmp_total) (on_total (λ (f : Filed). f.rank) nat_cmp_total)

less_is : (o : Ordering) → is_lt o ≡ true → o ≡ Less
less_is Less is = refl
less_is Equal is = absurd (cc is)
less_is Greater is = absurd (cc is)

upper : (at x y : Filed) → filed_cmp x y ≡ Less → is_before at y ≡ true → is_before at x ≡ true
upper at x y less is = ap is_lt (filed_total.trans x y at less (less_is (filed_cmp y at) is))

order_back : (xs ys : List Filed) → AreInOrder (xs ++ ys) → AreInOrder ys
order_back [] ys order = order
order_back (x ∷ xs) ys order = order_back xs ys (sorted_tail filed_cmp x (xs ++ ys) order)

head_below : (at f : Filed) (rest : List Filed) → AreInOrder rest → Contains rest f → is_before at f ≡ true → option_map (is_before at) (slice_get rest 0) ≡ Some true
head_below at f [] order has is = absurd (none_there f has)
head_below at f (g ∷ rest) order has is =
    elim (cons_cases g rest f has) [
      | inl same ↦ ap (λ (x : Filed). Some (is_before at x)) same ∙ ap (λ (t : Bool). Some t) is
      | inr there ↦ ap (λ (t : Bool). Some t) (upper at g f (each_has (λ (x : Filed). filed_cmp g x ≡ Less) rest f (sorted_head filed_cmp g rest order) there) is)
    ]

some_at : (kind : ℕ) (rest : List Filed) → option_map (is_before (start_of (kind + 1))) (slice_get rest 0) ≡ Some true → IsSome (next_below ((kind + 1) ∷ []) rest)
some_at kind [] is = absurd (cc is)
some_at kind (g ∷ rest) is = let high : is_before (start_of (kind + 1)) g ≡ true = cc is in rw high refl

in_back : (at f : Filed) (front rest : List Filed) → IsCut at front rest → Contains (front ++ rest) f → is_before at f ≡ false → Contains rest f
in_back at f front rest cut has low =
    elim (Contains-append_cases front rest f has) [
      | inl there ↦ (let before : is_before at f ≡ true = each_has (λ (x : Filed). is_before at x ≡ true) front f cut.before there in absurd (cc (before, low)))
      | inr behind ↦ behind
    ]

below_some : (items front rest : List Filed) (kind : ℕ) → items ≡ front ++ rest → AreInOrder items → IsCut (start_of kind) front rest → HasKind items kind → IsSome (next_below ((kind + 1) ∷ []) rest)
below_some items front rest kind whole order cut has =
    let f : Filed = filed_at (kind ∷ has.0) has.1 in
    let there : Contains rest f = in_back (start_of kind) f front rest cut (subst (λ (xs : List Filed). Contains xs f) whole has.2) (low_own kind has.0 has.1) in
    some_at kind rest (head_below (start_of (kind + 1)) f rest (order_back front rest (subst AreInOrder whole order)) there (high_own kind has.0 has.1))

-- whether a pair stands between the starts of a kind and of the next is whether one has the kind
pub kind_there : (items rest : List Filed) (kind : ℕ) (found : Option ℕ) (there : Bool) → AreInOrder items → IsFrom (start_of kind) items rest → found ≡ next_below ((kind + 1) ∷ []) rest → there ≡ is_some found → IsTrue there ↔ HasKind items kind
kind_there items rest kind found there order from is told =
    let same : there ≡ is_some (next_below ((kind + 1) ∷ []) rest) = told ∙ ap (λ (o : Option ℕ). is_some o) is in (
      λ is_there. some_below items from.front rest kind from.whole order from.cut (sym same ∙ is_there),
      λ has. same ∙ below_some items from.front rest kind from.whole order from.cut has,
    )

-- What the lists of the attached caches and of what they keep keep true.
use Rattle.std.proofs.Common.{◌≡◌, Bool, true, false, ℕ, ◌<◌, ◌≤◌, ◌==◌, ◌&&◌, ◌||◌, cond, nat_lt, List, [], ◌∷◌, map, length, get_or, suc, refl, ◌∙◌, ap, arith, eq-eqb}
use Rattle.std.specs.List.{All, AllByRecursion, AllPairs, count_by, flat_map, list_any}
use Rattle.std.proofs.lemmas.Bool.Decides.{nat_tests}
use Rattle.std.proofs.lemmas.List.{get_or_default}
use Rattle.std.proofs.lemmas.List.Elements.{All-cons, All-from_recursion, All-head, All-nil, All-tail, recursion_from_All}
use Rattle.std.proofs.lemmas.List.Kept.{AllPairs-cons}
use Rattle.std.proofs.lemmas.List.Sums.{sum_by-cons}
use Rattle.lb_wire.specs.declared.ids.CacheId.{CacheId}
use Rattle.lb_cache.specs.declared.cached.KeptReply.{KeptReply}
use Rattle.lb_cache.specs.declared.caches.Shelf.{Shelf}
use Rattle.lb_cache.specs.declared.reply.CachedReply.{CachedReply}
use Rattle.lb_cache.specs.Cache.{AreReplies}
use Rattle.lb_cache.specs.Caches.{AreKept, AreShelves, attached_of, goes_before, has_id, held_by, is_of, kept_of, lists_of}
use Rattle.lb_cache.specs.Reply.{before_key}
use Rattle.lb_cache.proofs.AreShelves.{behind_higher, before_lower, kept_before, kept_behind, kept_stands, stands_there, StandsAt}
use Rattle.lb_cache.proofs.KeptOf.{IsTestOf, count_among, each_kept, each_weaker, higher_others, lower_others}
use Rattle.lb_cache.proofs.WithCache.{pairs_append}

-- what holds of each element, and of each two, holds of what they are mapped to
all_map : {X Y : Type 0} (P : X → Type 0) (Q : Y → Type 0) (f : X → Y) → ((x : X) → P x → Q (f x)) → (xs : List X) → All P xs → All Q (map f xs)
all_map P Q f says [] all = All-nil Q
all_map P Q f says (x ∷ xs) all = All-cons Q (f x) (map f xs) (says x (All-head P x xs all)) (all_map P Q f says xs (All-tail P x xs all))

head_pairs : {X : Type 0} (R : X → X → Type 0) (x : X) (xs : List X) → AllPairs R (x ∷ xs) → All (R x) xs
head_pairs R x xs pairs = λ k d lt. pairs 0 (suc k) d (omega arith) (omega (arith, lt))

tail_pairs : {X : Type 0} (R : X → X → Type 0) (x : X) (xs : List X) → AllPairs R (x ∷ xs) → AllPairs R xs
tail_pairs R x xs pairs = λ i j d lt within. pairs (suc i) (suc j) d (omega (arith, lt)) (omega (arith, within))

pairs_map : {X Y : Type 0} (R : X → X → Type 0) (S : Y → Y → Type 0) (f : X → Y) → ((x y : X) → R x y → S (f x) (f y)) → (xs : List X) → AllPairs R xs → AllPairs S (map f xs)
pairs_map R S f says [] pairs = λ i j d lt within. absurd (omega (arith, within))
pairs_map R S f says (x ∷ xs) pairs =
    AllPairs-cons S (f x) (map f xs) (all_map (R x) (S (f x)) f (says x) xs (head_pairs R x xs pairs)) (pairs_map R S f says xs (tail_pairs R x xs pairs))

-- a reply stands before another one
abbrev Before : KeptReply → KeptReply → Type 0
Before a b = goes_before b a ≡ true

or_that : (a b : Bool) → b ≡ true → (a || b) ≡ true
or_that true b is = refl
or_that false b is = is

this_or : (a b : Bool) → a ≡ true → (a || b) ≡ true
this_or a b is = ap (λ (c : Bool). c || b) is

both : (a b : Bool) → a ≡ true → b ≡ true → (a && b) ≡ true
both a b first second = ap (λ (c : Bool). c && b) first ∙ second

held_before : (id : CacheId) (x y : CachedReply) → before_key x.key y.key ≡ true → Before (held_by id x) (held_by id y)
held_before id x y less = or_that (nat_lt id.0 id.0) (id.0 == id.0 && before_key x.key y.key) (both (id.0 == id.0) (before_key x.key y.key) (eq-eqb id.0 id.0 refl) less)

less_test : (m n : ℕ) → m < n → nat_lt m n ≡ true
less_test m n lt = grind (arith, nat_tests, lt)

-- what a cache keeps stands before what those of greater numbers keep
cross : (id : CacheId) (rs : List CachedReply) (ks : List KeptReply) → AllByRecursion (λ k. id.0 < k.cache.0) ks → All (λ x. All (Before x) ks) (map (held_by id) rs)
cross id rs ks above =
    let each : All (λ k. id.0 < k.cache.0) ks = All-from_recursion (λ k. id.0 < k.cache.0) ks above in
    all_map (λ r. Unit {0}) (λ x. All (Before x) ks) (held_by id) (λ r _ k d lt. this_or (nat_lt id.0 (get_or ks k d).cache.0) _ (less_test id.0 (get_or ks k d).cache.0 (each k d lt))) rs (λ k d lt. tt)

kept_in_order : (shelves : List Shelf) → AllPairs (λ a b. a.id.0 < b.id.0) shelves → AllByRecursion (λ s. AreReplies s.cache) shelves → AllPairs Before (flat_map kept_of shelves)
kept_in_order [] order each = λ i j d lt within. absurd (omega (arith, within))
kept_in_order (s ∷ shelves) order each =
    let above = each_kept (λ c. s.id.0 < c.0) shelves (recursion_from_All (λ o. s.id.0 < o.id.0) shelves (head_pairs (λ a b. a.id.0 < b.id.0) s shelves order)) in
    pairs_append Before (kept_of s) (flat_map kept_of shelves)
    (pairs_map (λ a b. before_key a.key b.key ≡ true) Before (held_by s.id) (held_before s.id) s.cache.replies each.0.order)
    (kept_in_order shelves (tail_pairs (λ a b. a.id.0 < b.id.0) s shelves order) each.1)
    (cross s.id s.cache.replies (flat_map kept_of shelves) above)

-- no cache keeps more than it may
count_all : (rs : List CachedReply) → count_by (λ r. true) rs ≡ length rs
count_all [] = refl
count_all (r ∷ rs) = omega (arith, sum_by-cons (λ (o : CachedReply). cond true 1 0) r rs, count_all rs)

own_test : (id : CacheId) → IsTestOf id (is_of id) (λ r. true)
own_test id = record { inside = λ r. eq-eqb id.0 id.0 refl; outside = λ k other. other }

few_at : (shelves : List Shelf) (at : ℕ) (s : Shelf) → StandsAt s.id shelves at s → AreReplies s.cache → count_by (is_of s.id) (flat_map kept_of shelves) ≤ s.cache.max
few_at shelves at s stands are =
    let front = kept_before shelves at in
    let back = kept_behind shelves at in
    let whole = ap (count_by (is_of s.id)) (kept_stands s.id shelves at s stands) in
    let count = count_among s.id front back (is_of s.id) (λ r. true) (own_test s.id) (lower_others s.id front (before_lower s.id shelves at s stands)) (higher_others s.id back (behind_higher s.id shelves at s stands)) s.cache.replies in
    omega (arith, whole, count, count_all s.cache.replies, are.few)

few_each : (shelves : List Shelf) → AreShelves shelves → All (λ s. count_by (is_of s.id) (flat_map kept_of shelves) ≤ s.cache.max) shelves
few_each shelves was = λ k d lt.
    let s : Shelf = get_or shelves k d in
    few_at shelves k s (stands_there shelves k s was.order lt (get_or_default shelves k d s lt)) (All-from_recursion (λ o. AreReplies o.cache) shelves was.each k d lt)

-- each reply is of an attached cache
there_each : (shelves : List Shelf) → AllByRecursion (λ s. list_any (has_id s.id) (map attached_of shelves) ≡ true) shelves
there_each [] = tt
there_each (s ∷ shelves) = (
  this_or (s.id.0 == s.id.0) (list_any (has_id s.id) (map attached_of shelves)) (eq-eqb s.id.0 s.id.0 refl),
  each_weaker (λ o. list_any (has_id o.id) (map attached_of shelves) ≡ true) (λ o. list_any (has_id o.id) (map attached_of (s ∷ shelves)) ≡ true) (λ o there. or_that (has_id o.id (attached_of s)) (list_any (has_id o.id) (map attached_of shelves)) there) shelves (there_each shelves),
)

pub are_kept : (shelves : List Shelf) → AreShelves shelves → AreKept (lists_of shelves)
are_kept shelves was = record {
  caches = pairs_map (λ a b. a.id.0 < b.id.0) (λ a b. a.id.0 < b.id.0) attached_of (λ x y lt. lt) shelves was.order;
  order = kept_in_order shelves was.order was.each;
  few = all_map (λ s. count_by (is_of s.id) (flat_map kept_of shelves) ≤ s.cache.max) (λ c. count_by (is_of c.id) (flat_map kept_of shelves) ≤ c.max) attached_of (λ s few. few) shelves (few_each shelves was);
  attached = All-from_recursion (λ k. list_any (has_id k.cache) (map attached_of shelves) ≡ true) (flat_map kept_of shelves) (each_kept (λ c. list_any (has_id c) (map attached_of shelves) ≡ true) shelves (there_each shelves));
}

-- Replies in the order of their keys, by what is found in them.
use Rattle.std.proofs.Common.{◌≡◌, ◌&&◌, Bool, true, false, not, cond, T, inl, inr, List, [], ◌∷◌, map, Option, Some, None, refl, sym, ap, ◌∙◌}
use Rattle.std.specs.List.{filter}
use Rattle.std.specs.Ordering.{eq_by_cmp, is_eq, is_lt, ordering_reverse}
use Rattle.std.specs.declared.cmp.Ordering.{Ordering}
use Rattle.std.specs.declared.cmp.Ordering.TheVariants.{Less, Equal, Greater}
use Rattle.std.specs.FinMap.Entries.{below_all, find, is_sorted, put, same_entries}
use Rattle.std.proofs.lemmas.Bool.{cases_Bool}
use Rattle.lb_wire.specs.declared.key.Key.{Key}
use Rattle.lb_cache.specs.declared.reply.CachedReply.{CachedReply}
use Rattle.lb_cache.specs.Reply.{before_key, cmp_key, has_key, is_before, same_key}
use Rattle.lb_cache.specs.Cache.{kept_for, placed}
use Rattle.lb_cache.specs.Store.{stays}
use Rattle.lb_cache.proofs.KeyOrder.{before_differs, before_trans, is_same, key_ties, key_total, same_is}

abbrev pub pair : CachedReply → Key × CachedReply
pair r = (r.key, r)

abbrev pub pairs : List CachedReply → List (Key × CachedReply)
pairs rs = map pair rs

-- the keys ascend
abbrev pub Sorted : List CachedReply → Type 0
Sorted rs = T (is_sorted cmp_key (pairs rs))

pub flips : (a b : Key) → same_key a b ≡ same_key b a
flips a b = elim (cases_Bool (same_key a b)) [
  | inl t ↦ let is : b ≡ a = sym (same_is a b t) in t ∙ sym (is_same b a is)
  | inr t ↦ elim (cases_Bool (same_key b a)) [
    | inl u ↦ let is : a ≡ b = sym (same_is b a u) in let yes : same_key a b ≡ true = is_same a b is in absurd (cc)
    | inr u ↦ t ∙ sym u
  ]
]

pub ties : (q : Key) (r : CachedReply) → eq_by_cmp cmp_key q r.key ≡ has_key q r
ties q r = sym (key_ties q r.key) ∙ flips q r.key

-- a search by key is a search of the pairs
pub kept_is : (q : Key) (rs : List CachedReply) → kept_for rs q ≡ find cmp_key q (pairs rs)
kept_is q [] = refl
kept_is q (r ∷ rs) =
    sym (ap (λ (b : Bool). cond b (Some r) (find cmp_key q (pairs rs))) (ties q r) ∙ ap (cond (has_key q r) (Some r)) (sym (kept_is q rs)))

tied_eq : (o : Ordering) → o ≡ Equal → is_eq o ≡ true
tied_eq o is = ap is_eq is

pub exact : (a b : Key) → cmp_key a b ≡ Equal → a ≡ b
exact a b is = same_is a b (key_ties a b ∙ tied_eq (cmp_key a b) is)

unpair : (rs : List CachedReply) → map (λ (e : Key × CachedReply). e.1) (pairs rs) ≡ rs
unpair [] = refl
unpair (r ∷ rs) = ap (λ (xs : List CachedReply). r ∷ xs) (unpair rs)

-- replies in order are known by what is found in them
pub same_replies : (xs ys : List CachedReply) → Sorted xs → Sorted ys → ((q : Key) → kept_for xs q ≡ kept_for ys q) → xs ≡ ys
same_replies xs ys sx sy same =
    let es : pairs xs ≡ pairs ys = same_entries cmp_key key_total exact (pairs xs) (pairs ys) sx sy (λ q. sym (kept_is q xs) ∙ same q ∙ kept_is q ys) in
    sym (unpair xs) ∙ ap (map (λ (e : Key × CachedReply). e.1)) es ∙ unpair ys

both : (a b : Bool) → T a → T b → T (a && b)
both true b p q = q
both false b p q = p

left : (a b : Bool) → T (a && b) → T a
left true b p = tt
left false b p = p

right : (a b : Bool) → T (a && b) → T b
right true b p = p
right false b p = absurd p

-- ---- what stays of a list

below_filter : (k : Key) (p : CachedReply → Bool) (rs : List CachedReply) → T (below_all cmp_key k (pairs rs)) → T (below_all cmp_key k (pairs (filter p rs)))
below_filter k p [] h = tt
below_filter k p (r ∷ rs) h = elim (cases_Bool (p r)) [
  | inl t ↦ rw t (both (is_lt (cmp_key k r.key)) _ (left _ _ h) (below_filter k p rs (right _ _ h)))
  | inr t ↦ rw t (below_filter k p rs (right _ _ h))
]

pub sorted_filter : (p : CachedReply → Bool) (rs : List CachedReply) → Sorted rs → Sorted (filter p rs)
sorted_filter p [] h = tt
sorted_filter p (r ∷ rs) h = elim (cases_Bool (p r)) [
  | inl t ↦ rw t (both (below_all cmp_key r.key (pairs (filter p rs))) _ (below_filter r.key p rs (left _ _ h)) (sorted_filter p rs (right _ _ h)))
  | inr t ↦ rw t (sorted_filter p rs (right _ _ h))
]

truth : (b : Bool) → T b → b ≡ true
truth true h = refl
truth false h = absurd h

-- past all keys none is found
past : (q k : Key) (rs : List CachedReply) → same_key k q ≡ true → T (below_all cmp_key k (pairs rs)) → kept_for rs q ≡ None
past q k [] same h = refl
past q k (r ∷ rs) same h =
    let lt : is_lt (cmp_key k r.key) ≡ true = truth (is_lt (cmp_key k r.key)) (left _ _ h) in
    let is : k ≡ q = same_is k q same in
    let off : same_key k r.key ≡ false = before_differs k r.key lt in
    let not : has_key q r ≡ false = flips r.key q ∙ ap (λ (j : Key). same_key j r.key) (sym is) ∙ off in
    rw not (past q k rs same (right _ _ h))

nothing_stays : (p : CachedReply → Bool) (o : Option CachedReply) → o ≡ None → stays p o ≡ None
nothing_stays p o is = ap (stays p) is

pub kept_filter : (p : CachedReply → Bool) (q : Key) (rs : List CachedReply) → Sorted rs → kept_for (filter p rs) q ≡ stays p (kept_for rs q)
kept_filter p q [] h = refl
kept_filter p q (r ∷ rs) h = elim (cases_Bool (has_key q r)) [
  | inl here ↦ elim (cases_Bool (p r)) [
    | inl t ↦ rw (here, t) (rw here refl)
    | inr t ↦
        let rest : kept_for (filter p rs) q ≡ None = kept_filter p q rs (right _ _ h) ∙ nothing_stays p (kept_for rs q) (past q r.key rs here (left _ _ h)) in
        rw (here, t) rest
  ]
  | inr off ↦ elim (cases_Bool (p r)) [
    | inl t ↦ rw (off, t) (rw off (kept_filter p q rs (right _ _ h)))
    | inr t ↦ rw (off, t) (kept_filter p q rs (right _ _ h))
  ]
]

-- ---- what is placed

greater_is : (o : Ordering) → is_lt (ordering_reverse o) ≡ true → o ≡ Greater
greater_is Less is = absurd (cc)
greater_is Equal is = absurd (cc)
greater_is Greater is = refl

less_is : (o : Ordering) → is_lt (ordering_reverse o) ≡ false → is_eq o ≡ false → o ≡ Less
less_is Less is off = refl
less_is Equal is off = absurd (cc)
less_is Greater is off = absurd (cc)

not_back : (a b : Key) → before_key a b ≡ true → before_key b a ≡ false
not_back a b before = elim (cases_Bool (before_key b a)) [
  | inl t ↦
      let self : before_key a a ≡ true = before_trans a b a before t in
      let off : same_key a a ≡ false = before_differs a a self in
      let on : same_key a a ≡ true = is_same a a refl in
      absurd (cc)
  | inr t ↦ t
]

-- where all stand after, none stands before
none_before : (k : Key) (r : CachedReply) (xs : List CachedReply) → before_key r.key k ≡ true → T (below_all cmp_key k (pairs xs)) → (filter (is_before r.key) xs ≡ []) × (filter (λ o. not (is_before r.key o)) xs ≡ xs)
none_before k r [] before h = (refl, refl)
none_before k r (x ∷ xs) before h =
    let next : before_key k x.key ≡ true = truth (is_lt (cmp_key k x.key)) (left _ _ h) in
    let off : is_before r.key x ≡ false = not_back r.key x.key (before_trans r.key k x.key before next) in
    let rest = none_before k r xs before (right _ _ h) in
    (rw off rest.0, rw off (ap (λ (ys : List CachedReply). x ∷ ys) rest.1))

pub none_here : (q : Key) (x : CachedReply) (xs : List CachedReply) → kept_for (x ∷ xs) q ≡ None → (has_key q x ≡ false) × (kept_for xs q ≡ None)
none_here q x xs none = elim (cases_Bool (has_key q x)) [
  | inl t ↦ let some : kept_for (x ∷ xs) q ≡ Some x = rw t refl in absurd (cc)
  | inr t ↦ let same : kept_for (x ∷ xs) q ≡ kept_for xs q = rw t refl in (t, sym same ∙ none)
]

pub placed_is : (r : CachedReply) (xs : List CachedReply) → Sorted xs → kept_for xs r.key ≡ None → pairs (placed r xs) ≡ put cmp_key r.key r (pairs xs)
placed_is r [] h none = refl
placed_is r (x ∷ xs) h none =
    let n = none_here r.key x xs none in
    let turned : is_lt (ordering_reverse (cmp_key r.key x.key)) ≡ is_before r.key x = sym (ap is_lt (key_total.antisymm x.key r.key)) in
    elim (cases_Bool (is_before r.key x)) [
      | inl t ↦
          let g : cmp_key r.key x.key ≡ Greater = greater_is (cmp_key r.key x.key) (turned ∙ t) in
          rw (t, g) (ap (λ (es : List (Key × CachedReply)). (x.key, x) ∷ es) (placed_is r xs (right _ _ h) n.1))
      | inr t ↦
          let e : is_eq (cmp_key r.key x.key) ≡ false = ties r.key x ∙ n.0 in
          let l : cmp_key r.key x.key ≡ Less = less_is (cmp_key r.key x.key) (turned ∙ t) e in
          let before : before_key r.key x.key ≡ true = ap is_lt l in
          let rest = none_before x.key r xs before (left _ _ h) in
          rw (t, l) (rw (rest.0, rest.1) refl)
    ]

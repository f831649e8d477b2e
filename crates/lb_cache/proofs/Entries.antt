-- Keys with their slots, in the order of the keys.
use Rattle.std.proofs.Common.{◌≡◌, ◌⊎◌, ℕ, Bool, true, false, not, cond, ◌&&◌, T, List, [], ◌∷◌, Option, None, Some, Result, Ok, Err, OnOk, OnErr, Contains, ◌↔◌, inl, inr, refl, sym, ap, subst, ◌∙◌}
use Rattle.std.specs.FinMap.Entries.{below_all, find, find-put, find-where_key, is_sorted, is_sorted-put, is_sorted-where_key, put, same_entries}
use Rattle.std.specs.Ordering.{eq_by_cmp, is_eq, is_lt, ordering_reverse}
use Rattle.std.specs.declared.cmp.Ordering.{Ordering}
use Rattle.std.specs.declared.cmp.Ordering.TheVariants.{Less, Equal, Greater}
use Rattle.std.proofs.lemmas.Cmp.{tied_itself}
use Rattle.lb_wire.specs.declared.key.Key.{Key}
use Rattle.lb_cache.proofs.Members.{cons_cases, cons_here, cons_there, none_there}
use Rattle.lb_cache.specs.Keys.{without_key}
use Rattle.lb_cache.specs.Reply.{cmp_key}
use Rattle.lb_cache.proofs.KeyOrder.{key_ties, key_total, same_is}

pub both : (a b : Bool) → T a → T b → T (a && b)
both true b p q = q
both false b p q = p

pub first : (a b : Bool) → T (a && b) → T a
first true b p = tt
first false b p = p

pub second : (a b : Bool) → T (a && b) → T b
second true b p = p
second false b p = absurd p

less : (o : Ordering) → T (is_lt o) → o ≡ Less
less Less p = refl
less Equal p = absurd p
less Greater p = absurd p

pub some_is : {X : Type 0} (x y : X) → Some x ≡ Some y → x ≡ y
some_is x y is = cc is

-- keys that the order does not tell apart are equal
one_key : (a b : Key) → cmp_key a b ≡ Equal → a ≡ b
one_key a b tied = same_is a b (key_ties a b ∙ ap is_eq tied)

pub tied_key : (a b : Key) → eq_by_cmp cmp_key a b ≡ true → a ≡ b
tied_key a b tied = same_is a b (key_ties a b ∙ tied)

pub own_key : (a : Key) → eq_by_cmp cmp_key a a ≡ true
own_key a = ap is_eq (tied_itself key_total a)

-- a key that ties with another is not told from it
no_tie : (a b : Key) → eq_by_cmp cmp_key a b ≡ false → a ≡ b → ⊥
no_tie a b differs same =
    let own : eq_by_cmp cmp_key a b ≡ true = subst (λ (k : Key). eq_by_cmp cmp_key a k ≡ true) same (own_key a) in
    absurd (cc (own, differs))

below_has : (k : Key) (es : List (Key × ℕ)) (e : Key × ℕ) → T (below_all cmp_key k es) → Contains es e → cmp_key k e.0 ≡ Less
below_has k [] e below has = absurd (none_there e has)
below_has k (x ∷ es) e below has =
    elim (cons_cases x es e has) [
      | inl same ↦ subst (λ (y : Key × ℕ). cmp_key k y.0 ≡ Less) same (less (cmp_key k x.0) (first (is_lt (cmp_key k x.0)) (below_all cmp_key k es) below))
      | inr later ↦ below_has k es e (second (is_lt (cmp_key k x.0)) (below_all cmp_key k es) below) later
    ]

found_here : (e : Key × ℕ) (es : List (Key × ℕ)) → find cmp_key e.0 (e ∷ es) ≡ Some e.1
found_here e es = ap (λ (b : Bool). cond b (Some e.1) (find cmp_key e.0 es)) (own_key e.0)

passed_over : (x e : Key × ℕ) (es : List (Key × ℕ)) → cmp_key x.0 e.0 ≡ Less → find cmp_key e.0 (x ∷ es) ≡ find cmp_key e.0 es
passed_over x e es before =
    ap (λ (o : Ordering). cond (is_eq o) (Some x.1) (find cmp_key e.0 es)) (key_total.antisymm e.0 x.0 ∙ ap ordering_reverse before)

-- an entry of a list in order is what is found under its key
pub found : (es : List (Key × ℕ)) (e : Key × ℕ) → T (is_sorted cmp_key es) → Contains es e → find cmp_key e.0 es ≡ Some e.1
found [] e sorted has = absurd (none_there e has)
found (x ∷ es) e sorted has =
    elim (cons_cases x es e has) [
      | inl same ↦ subst (λ (y : Key × ℕ). find cmp_key e.0 (y ∷ es) ≡ Some e.1) (sym same) (found_here e es)
      | inr later ↦
          passed_over x e es (below_has x.0 es e (first (below_all cmp_key x.0 es) (is_sorted cmp_key es) sorted) later)
          ∙ found es e (second (below_all cmp_key x.0 es) (is_sorted cmp_key es) sorted) later
    ]

stands_by : (x : Key × ℕ) (es : List (Key × ℕ)) (q : Key) (v : ℕ) (b : Bool) → eq_by_cmp cmp_key q x.0 ≡ b → cond b (Some x.1) (find cmp_key q es) ≡ Some v → (find cmp_key q es ≡ Some v → Contains es (q, v)) → Contains (x ∷ es) (q, v)
stands_by x es q v true tied is later =
    let keys : x.0 ≡ q = sym (tied_key q x.0 tied) in
    let slots : x.1 ≡ v = some_is x.1 v is in
    subst (λ (w : ℕ). Contains (x ∷ es) (q, w)) slots (subst (λ (k : Key). Contains (x ∷ es) (k, x.1)) keys (cons_here x es))
stands_by x es q v false tied is later = cons_there x es (q, v) (later is)

-- what is found under a key stands in the list with it
pub stands : (es : List (Key × ℕ)) (q : Key) (v : ℕ) → find cmp_key q es ≡ Some v → Contains es (q, v)
stands [] q v is = absurd (cc is)
stands (x ∷ es) q v is = stands_by x es q v (eq_by_cmp cmp_key q x.0) refl is (λ was. stands es q v was)

-- answers that are the same wherever there is one
pub agree : (r s : Option ℕ) → ((v : ℕ) → r ≡ Some v → s ≡ Some v) → ((v : ℕ) → s ≡ Some v → r ≡ Some v) → r ≡ s
agree None None to back = refl
agree None (Some w) to back = back w refl
agree (Some v) s to back = sym (to v refl)

-- the lists of which the one has this entry besides
abbrev pub Besides : List (Key × ℕ) → Key × ℕ → List (Key × ℕ) → Type 0
Besides old entry new = (e : Key × ℕ) → Contains new e ↔ ((e ≡ entry) ⊎ Contains old e)

-- the lists of which the one has all but this entry
abbrev pub But : List (Key × ℕ) → Key × ℕ → List (Key × ℕ) → Type 0
But old entry new = (e : Key × ℕ) → Contains new e ↔ ((e ≡ entry → ⊥) × Contains old e)

put_found : (k : Key) (v : ℕ) (es fs : List (Key × ℕ)) → T (is_sorted cmp_key es) → T (is_sorted cmp_key fs) → Besides es (k, v) fs → (q : Key) (b : Bool) → eq_by_cmp cmp_key q k ≡ b → find cmp_key q fs ≡ cond b (Some v) (find cmp_key q es)
put_found k v es fs sorted_es sorted_fs besides q true tied =
    subst (λ (x : Key). find cmp_key x fs ≡ Some v) (sym (tied_key q k tied)) (found fs (k, v) sorted_fs ((besides (k, v)).1 (inl refl)))
put_found k v es fs sorted_es sorted_fs besides q false tied =
    agree (find cmp_key q fs) (find cmp_key q es)
    (λ w is.
    elim ((besides (q, w)).0 (stands fs q w is)) [
      | inl same ↦ absurd (no_tie q k tied (ap (λ (e : Key × ℕ). e.0) same))
      | inr was ↦ found es (q, w) sorted_es was
    ])
    (λ w is. found fs (q, w) sorted_fs ((besides (q, w)).1 (inr (stands es q w is))))

-- a list in order that has an entry besides is that with the entry put
pub put_is : (k : Key) (v : ℕ) (es fs : List (Key × ℕ)) → T (is_sorted cmp_key es) → T (is_sorted cmp_key fs) → Besides es (k, v) fs → fs ≡ put cmp_key k v es
put_is k v es fs sorted_es sorted_fs besides =
    same_entries cmp_key key_total one_key fs (put cmp_key k v es) sorted_fs (is_sorted-put cmp_key key_total k v es sorted_es)
    (λ q. put_found k v es fs sorted_es sorted_fs besides q (eq_by_cmp cmp_key q k) refl ∙ sym (find-put cmp_key key_total q k v es))

but_found : (k : Key) (v : ℕ) (es fs : List (Key × ℕ)) → T (is_sorted cmp_key es) → T (is_sorted cmp_key fs) → find cmp_key k es ≡ Some v → But es (k, v) fs → (q : Key) (b : Bool) → eq_by_cmp cmp_key k q ≡ b → find cmp_key q fs ≡ cond (not b) (find cmp_key q es) None
but_found k v es fs sorted_es sorted_fs is but q true tied =
    let same : k ≡ q = tied_key k q tied in
    agree (find cmp_key q fs) None
    (λ w has.
    let there = (but (q, w)).0 (stands fs q w has) in
    let slots : w ≡ v = some_is w v (sym (found es (q, w) sorted_es there.1) ∙ ap (λ (x : Key). find cmp_key x es) (sym same) ∙ is) in
    absurd (there.0 (ap (λ (x : Key). (x, w)) (sym same) ∙ ap (λ (n : ℕ). (k, n)) slots)))
    (λ w has. absurd (cc has))
but_found k v es fs sorted_es sorted_fs is but q false tied =
    agree (find cmp_key q fs) (find cmp_key q es)
    (λ w has. found es (q, w) sorted_es ((but (q, w)).0 (stands fs q w has)).1)
    (λ w has. found fs (q, w) sorted_fs ((but (q, w)).1 (λ same. no_tie k q tied (sym (ap (λ (e : Key × ℕ). e.0) same)), stands es q w has)))

-- a list in order that has all but an entry is that of the other keys
pub but_is : (k : Key) (v : ℕ) (es fs : List (Key × ℕ)) → T (is_sorted cmp_key es) → T (is_sorted cmp_key fs) → find cmp_key k es ≡ Some v → But es (k, v) fs → fs ≡ without_key k es
but_is k v es fs sorted_es sorted_fs is but =
    same_entries cmp_key key_total one_key fs (without_key k es) sorted_fs (is_sorted-where_key cmp_key (λ (x : Key). not (eq_by_cmp cmp_key k x)) es sorted_es)
    (λ q.
    but_found k v es fs sorted_es sorted_fs is but q (eq_by_cmp cmp_key k q) refl
    ∙ sym (find-where_key cmp_key (λ (x : Key). not (eq_by_cmp cmp_key k x)) q (λ x tied. ap (λ (y : Key). not (eq_by_cmp cmp_key k y)) (sym (one_key q x tied))) es))

-- what follows from the new and from the old
pub either_way : {A E P Q R : Type 0} (r : Result A E) → OnOk r P → OnErr r Q → (P → R) → (Q → R) → R
either_way (Ok a) ok err new old = new ok
either_way (Err e) ok err new old = old err

-- The keys of the replies in slots, put in order one by one.
use Rattle.std.proofs.Common.{◌≡◌, ◌≢◌, ℕ, ◌+◌, ◌<◌, ◌==◌, true, false, cond, inl, inr, List, [], Option, Some, None, refl, sym, ap, subst, ◌∙◌, arith}
use Rattle.std.specs.Option.{IfNone, IfSome, IsSome}
use Rattle.std.specs.Ordering.{eq_by_cmp}
use Rattle.std.specs.FinMap.Entries.{find, find-put, is_sorted-put, put, same_entries}
use Rattle.std.proofs.lemmas.Bool.{cases_Bool, eqb-true}
use Rattle.std.proofs.lemmas.Option.{IfSome_then}
use Rattle.lb_index_slots.specs.Slots.{get}
use Rattle.lb_wire.specs.declared.key.Key.{Key}
use Rattle.lb_cache.specs.declared.reply.CachedReply.{CachedReply}
use Rattle.lb_cache.specs.Keys.{is_within}
use Rattle.lb_cache.specs.Reply.{cmp_key}
use Rattle.lb_cache.specs.Store.{AreApart, AreFiled, AreListed, stored}
use Rattle.lb_cache.proofs.Entries.{agree}
use Rattle.lb_cache.proofs.KeyOrder.{key_total}
use Rattle.lb_cache.proofs.Listed.{exact}
use Rattle.lb_cache.proofs.Marked.{Cells}
use Rattle.lb_cache.proofs.Shelved.{apart, found_holds, one, tied_is, tied_own}
use Rattle.lb_cache.proofs.Stores.{some_is}

-- each reply's key is found with its own slot, so that no two have one key
pub are_apart : (keys : List (Key × ℕ)) (cells : Cells) → AreFiled (stored keys cells) → AreApart cells
are_apart keys cells are s t q r there too same = one s t (sym (are.filed s q there) ∙ ap (λ (k : Key). find cmp_key k keys) same ∙ are.filed t r too)

-- before the first slot there is none
pub none_listed : (cells : Cells) → AreListed cells 0 []
none_listed cells = record {
  order = tt;
  all = λ slot r there lt. absurd (omega (arith, lt));
  only = λ key slot is. absurd (cc is);
}

fresh_by : (cells : Cells) (n : ℕ) (es : List (Key × ℕ)) (r : CachedReply) (o : Option ℕ) → AreApart cells → AreListed cells n es → get cells n ≡ Some r → find cmp_key r.key es ≡ o → o ≡ None
fresh_by cells n es r None are was there is = refl
fresh_by cells n es r (Some s) are was there is =
    let had = was.only r.key s is in
    let same : s ≡ n = are s n had.1.0 r had.1.1 there had.1.2 in
    let low : s < n = had.0 in
    absurd (omega (arith, low, same))

-- the key of the next reply is not among those before
pub fresh : (cells : Cells) (n : ℕ) (es : List (Key × ℕ)) (r : CachedReply) → AreApart cells → AreListed cells n es → get cells n ≡ Some r → find cmp_key r.key es ≡ None
fresh cells n es r are was there = fresh_by cells n es r (find cmp_key r.key es) are was there refl

-- with the key of the reply in the next slot
listed_more : (cells : Cells) (n : ℕ) (es : List (Key × ℕ)) (r : CachedReply) → AreApart cells → AreListed cells n es → get cells n ≡ Some r → AreListed cells (n + 1) (put cmp_key r.key n es)
listed_more cells n es r are was there = record {
  order = is_sorted-put cmp_key key_total r.key n es was.order;
  all = λ s a at lt. find-put cmp_key key_total a.key r.key n es ∙ elim (cases_Bool (s == n)) [
    | inl t ↦
        let same : s ≡ n = eqb-true s n t in
        let is : r ≡ a = one r a (sym there ∙ ap (get cells) (sym same) ∙ at) in
        let ties : eq_by_cmp cmp_key a.key r.key ≡ true = subst (λ (x : CachedReply). eq_by_cmp cmp_key x.key r.key ≡ true) is (tied_own r.key) in
        rw ties (ap Some (sym same))
    | inr t ↦
        let other : s ≢ n = apart s n t in
        let low : s < n = omega (arith, lt, other) in
        let old : find cmp_key a.key es ≡ Some s = was.all s a at low in
        elim (cases_Bool (eq_by_cmp cmp_key a.key r.key)) [
          | inl u ↦
              let none : find cmp_key a.key es ≡ None = ap (λ (k : Key). find cmp_key k es) (tied_is a.key r.key u) ∙ fresh cells n es r are was there in
              absurd (cc)
          | inr u ↦ rw u old
        ]
  ];
  only = λ key s is.
      let found : cond (eq_by_cmp cmp_key key r.key) (Some n) (find cmp_key key es) ≡ Some s = sym (find-put cmp_key key_total key r.key n es) ∙ is in
      elim (cases_Bool (eq_by_cmp cmp_key key r.key)) [
        | inl t ↦
            let place : Some n ≡ Some s = rw t at found in
            let same : n ≡ s = one n s place in
            (omega (arith, same), (r, ap (get cells) (sym same) ∙ there, sym (tied_is key r.key t)))
        | inr t ↦
            let old : find cmp_key key es ≡ Some s = rw t at found in
            let had = was.only key s old in
            let low : s < n = had.0 in
            (omega (arith, low), had.1)
      ];
}

-- past a slot that has none
listed_past : (cells : Cells) (n : ℕ) (es : List (Key × ℕ)) → AreListed cells n es → get cells n ≡ None → AreListed cells (n + 1) es
listed_past cells n es was vacant = record {
  order = was.order;
  all = λ s a at lt. elim (cases_Bool (s == n)) [
    | inl t ↦
        let none : None ≡ Some a = sym vacant ∙ ap (get cells) (sym (eqb-true s n t)) ∙ at in
        absurd (cc)
    | inr t ↦
        let other : s ≢ n = apart s n t in
        let low : s < n = omega (arith, lt, other) in
        was.all s a at low
  ];
  only = λ key s is.
      let had = was.only key s is in
      let low : s < n = had.0 in
      (omega (arith, low), had.1);
}

listed_by : (cells : Cells) (n : ℕ) (es more : List (Key × ℕ)) (o : Option CachedReply) → get cells n ≡ o → AreApart cells → AreListed cells n es → ((r : CachedReply) → get cells n ≡ Some r → more ≡ put cmp_key r.key n es) → (get cells n ≡ None → more ≡ es) → AreListed cells (n + 1) more
listed_by cells n es more None is are was put none = subst (AreListed cells (n + 1)) (sym (none is)) (listed_past cells n es was is)
listed_by cells n es more (Some r) is are was put none = subst (AreListed cells (n + 1)) (sym (put r is)) (listed_more cells n es r are was is)

-- a slot further
pub listed_next : (cells : Cells) (n : ℕ) (es more : List (Key × ℕ)) → AreApart cells → AreListed cells n es → ((r : CachedReply) → get cells n ≡ Some r → more ≡ put cmp_key r.key n es) → (get cells n ≡ None → more ≡ es) → AreListed cells (n + 1) more
listed_next cells n es more are was put none = listed_by cells n es more (get cells n) refl are was put none

-- the entries of all slots are the keys
pub listed_keys : (keys es : List (Key × ℕ)) (cells : Cells) (top : ℕ) → AreFiled (stored keys cells) → ((s : ℕ) → IsSome (get cells s) → s < top) → AreListed cells top es → es ≡ keys
listed_keys keys es cells top are below all =
    same_entries cmp_key key_total exact es keys all.order are.order
    (λ q.
    agree (find cmp_key q es) (find cmp_key q keys)
    (λ s is.
    let had = (all.only q s is).1 in
    ap (λ (k : Key). find cmp_key k keys) (sym had.2) ∙ are.filed s had.0 had.1)
    (λ s is.
    let had = found_holds cells keys q s are.held is in
    ap (λ (k : Key). find cmp_key k es) (sym had.2) ∙ all.all s had.0 had.1 (below s (some_is (get cells s) had.0 had.1))))

-- the slot of a key within a span has the reply with that key
pub within_some : (keys : List (Key × ℕ)) (cells : Cells) (low high : List ℕ) (o : Option ℕ) → AreFiled (stored keys cells) → IfSome o (λ slot. (key : Key) × (find cmp_key key keys ≡ Some slot) × (is_within low high key.octets ≡ true)) → IfSome o (λ slot. (r : CachedReply) × (get cells slot ≡ Some r) × (is_within low high r.key.octets ≡ true))
within_some keys cells low high o are some =
    IfSome_then o some
    (λ slot at.
    let had = found_holds cells keys at.0 slot are.held at.1 in
    (had.0, had.1, ap (λ (k : Key). is_within low high k.octets) had.2 ∙ at.2))

-- where no key is within it, no reply's is
pub within_none : (keys : List (Key × ℕ)) (cells : Cells) (low high : List ℕ) (o : Option ℕ) → AreFiled (stored keys cells) → IfNone o ((key : Key) (slot : ℕ) → find cmp_key key keys ≡ Some slot → is_within low high key.octets ≡ false) → IfNone o ((s : ℕ) (r : CachedReply) → get cells s ≡ Some r → is_within low high r.key.octets ≡ false)
within_none keys cells low high None are none = λ s r there. none r.key s (are.filed s r there)
within_none keys cells low high (Some slot) are none = tt

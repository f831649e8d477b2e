-- Keys and slots, through changes of both.
use Rattle.std.proofs.Common.{◌≡◌, ◌≢◌, ℕ, ◌==◌, true, false, not, cond, inl, inr, List, [], ◌∷◌, Some, None, refl, sym, ap, subst, ◌∙◌}
use Rattle.std.specs.List.{AllByRecursion}
use Rattle.std.specs.Ordering.{eq_by_cmp}
use Rattle.std.specs.declared.cmp.Ordering.{Ordering}
use Rattle.std.specs.declared.cmp.Ordering.TheVariants.{Less, Equal, Greater}
use Rattle.std.specs.FinMap.Entries.{find, find-put, find-where_key, is_sorted-put, is_sorted-where_key, put}
use Rattle.std.proofs.lemmas.Bool.{cases_Bool, eqb-true, eq-eqb}
use Rattle.lb_index_slots.specs.Slots.{Updates, get}
use Rattle.lb_wire.specs.declared.key.Key.{Key}
use Rattle.lb_cache.specs.declared.reply.CachedReply.{CachedReply}
use Rattle.lb_cache.specs.Keys.{without_key}
use Rattle.lb_cache.specs.Reply.{cmp_key}
use Rattle.lb_cache.specs.Store.{AreFiled, Holds, stored}
use Rattle.lb_cache.proofs.KeyOrder.{is_same, key_ties, key_total, same_is}
use Rattle.lb_cache.proofs.Listed.{exact}
use Rattle.lb_cache.proofs.Marked.{Cells}

pub one : {X : Type 0} (a b : X) → Some a ≡ Some b → a ≡ b
one a b is = cc

pub apart : (s slot : ℕ) → (s == slot) ≡ false → s ≢ slot
apart s slot t = λ e. let yes : (s == slot) ≡ true = eq-eqb s slot e in absurd (cc)

-- a key ties with itself, and with one that is the same
pub tied_own : (k : Key) → eq_by_cmp cmp_key k k ≡ true
tied_own k = sym (key_ties k k) ∙ is_same k k refl

pub tied_is : (a b : Key) → eq_by_cmp cmp_key a b ≡ true → a ≡ b
tied_is a b t = same_is a b (key_ties a b ∙ t)

-- ---- the slots are seen by what they hold alone

held_same : (a b : Cells) (es : List (Key × ℕ)) → ((s : ℕ) → get b s ≡ get a s) → AllByRecursion (Holds a) es → AllByRecursion (Holds b) es
held_same a b [] same h = tt
held_same a b (e ∷ es) same h = ((h.0.0, same e.1 ∙ h.0.1, h.0.2), held_same a b es same h.1)

pub filed_same : (keys : List (Key × ℕ)) (a b : Cells) → AreFiled (stored keys a) → ((s : ℕ) → get b s ≡ get a s) → AreFiled (stored keys b)
filed_same keys a b was same = record {
  order = was.order;
  held = held_same a b keys same was.held;
  filed = λ s r there. was.filed s r (sym (same s) ∙ there);
}

-- ---- a key that is found

pub found_holds : (cells : Cells) (es : List (Key × ℕ)) (q : Key) (s : ℕ) → AllByRecursion (Holds cells) es → find cmp_key q es ≡ Some s → (a : CachedReply) × (get cells s ≡ Some a) × (a.key ≡ q)
found_holds cells [] q s h is = absurd (cc)
found_holds cells (e ∷ es) q s h is = elim (cases_Bool (eq_by_cmp cmp_key q e.0)) [
  | inl t ↦
      let place : Some e.1 ≡ Some s = rw t at is in
      let same : e.1 ≡ s = one e.1 s place in
      (h.0.0, ap (get cells) (sym same) ∙ h.0.1, h.0.2 ∙ sym (tied_is q e.0 t))
  | inr t ↦ found_holds cells es q s h.1 (rw t at is)
]

-- ---- a reply comes

filled : (cells new : Cells) (slot : ℕ) (r : CachedReply) (es : List (Key × ℕ)) → get cells slot ≡ None → Updates cells new slot (Some r) → AllByRecursion (Holds cells) es → AllByRecursion (Holds new) es
filled cells new slot r [] vacant up h = tt
filled cells new slot r (e ∷ es) vacant up h =
    let other : e.1 ≢ slot = λ is. (let none : None ≡ Some h.0.0 = sym vacant ∙ ap (get cells) (sym is) ∙ h.0.1 in absurd (cc)) in
    ((h.0.0, up.others e.1 other ∙ h.0.1, h.0.2), filled cells new slot r es vacant up h.1)

held_put : (new : Cells) (slot : ℕ) (r : CachedReply) (es : List (Key × ℕ)) → get new slot ≡ Some r → AllByRecursion (Holds new) es → AllByRecursion (Holds new) (put cmp_key r.key slot es)
held_put new slot r [] there h = ((r, there, refl), tt)
held_put new slot r (e ∷ es) there h = elim (cmp_key r.key e.0) as (λ (o : Ordering). cmp_key r.key e.0 ≡ o → AllByRecursion (Holds new) (put cmp_key r.key slot (e ∷ es))) [
  | Less ↦ λ o. rw o ((r, there, refl), (h.0, h.1))
  | Equal ↦ λ o. rw o ((r, there, exact r.key e.0 o), h.1)
  | Greater ↦ λ o. rw o (h.0, held_put new slot r es there h.1)
] refl

pub filed_added : (keys : List (Key × ℕ)) (cells new : Cells) (slot : ℕ) (r : CachedReply) → AreFiled (stored keys cells) → get cells slot ≡ None → Updates cells new slot (Some r) → find cmp_key r.key keys ≡ None → AreFiled (stored (put cmp_key r.key slot keys) new)
filed_added keys cells new slot r was vacant up fresh = record {
  order = is_sorted-put cmp_key key_total r.key slot keys was.order;
  held = held_put new slot r keys up.changed (filled cells new slot r keys vacant up was.held);
  filed = λ s a there. find-put cmp_key key_total a.key r.key slot keys ∙ elim (cases_Bool (s == slot)) [
    | inl t ↦
        let same : s ≡ slot = eqb-true s slot t in
        let is : r ≡ a = one r a (sym up.changed ∙ ap (get new) (sym same) ∙ there) in
        let ties : eq_by_cmp cmp_key a.key r.key ≡ true = subst (λ (x : CachedReply). eq_by_cmp cmp_key x.key r.key ≡ true) is (tied_own r.key) in
        rw ties (ap Some (sym same))
    | inr t ↦
        let old : get cells s ≡ Some a = sym (up.others s (apart s slot t)) ∙ there in
        let at : find cmp_key a.key keys ≡ Some s = was.filed s a old in
        elim (cases_Bool (eq_by_cmp cmp_key a.key r.key)) [
          | inl u ↦
              let none : find cmp_key a.key keys ≡ None = ap (λ (k : Key). find cmp_key k keys) (tied_is a.key r.key u) ∙ fresh in
              absurd (cc)
          | inr u ↦ rw u at
        ]
  ];
}

-- ---- a reply goes

emptied : (cells new : Cells) (slot : ℕ) (r : CachedReply) (es : List (Key × ℕ)) → get cells slot ≡ Some r → Updates cells new slot None → AllByRecursion (Holds cells) es → AllByRecursion (Holds new) (without_key r.key es)
emptied cells new slot r [] there up h = tt
emptied cells new slot r (e ∷ es) there up h = elim (cases_Bool (eq_by_cmp cmp_key r.key e.0)) [
  | inl t ↦ rw t (emptied cells new slot r es there up h.1)
  | inr t ↦
      let other : e.1 ≢ slot = λ is. (
      let same : r ≡ h.0.0 = one r h.0.0 (sym there ∙ ap (get cells) (sym is) ∙ h.0.1) in
      let key : r.key ≡ e.0 = ap (λ (x : CachedReply). x.key) same ∙ h.0.2 in
      let yes : eq_by_cmp cmp_key r.key e.0 ≡ true = subst (λ (k : Key). eq_by_cmp cmp_key r.key k ≡ true) key (tied_own r.key) in
      absurd (cc)) in
      rw t ((h.0.0, up.others e.1 other ∙ h.0.1, h.0.2), emptied cells new slot r es there up h.1)
]

pub filed_removed : (keys : List (Key × ℕ)) (cells new : Cells) (slot : ℕ) (r : CachedReply) → AreFiled (stored keys cells) → get cells slot ≡ Some r → Updates cells new slot None → AreFiled (stored (without_key r.key keys) new)
filed_removed keys cells new slot r was there up = record {
  order = is_sorted-where_key cmp_key (λ (k : Key). not (eq_by_cmp cmp_key r.key k)) keys was.order;
  held = emptied cells new slot r keys there up was.held;
  filed = λ s a is. elim (cases_Bool (s == slot)) [
    | inl t ↦
        let none : None ≡ Some a = sym up.changed ∙ ap (get new) (sym (eqb-true s slot t)) ∙ is in
        absurd (cc)
    | inr t ↦
        let other : s ≢ slot = apart s slot t in
        let at : find cmp_key a.key keys ≡ Some s = was.filed s a (sym (up.others s other) ∙ is) in
        let left : find cmp_key a.key (without_key r.key keys) ≡ cond (not (eq_by_cmp cmp_key r.key a.key)) (find cmp_key a.key keys) None =
        find-where_key cmp_key (λ (k : Key). not (eq_by_cmp cmp_key r.key k)) a.key (λ x o. ap (λ (k : Key). not (eq_by_cmp cmp_key r.key k)) (sym (exact a.key x o))) keys in
        elim (cases_Bool (eq_by_cmp cmp_key r.key a.key)) [
          | inl u ↦
              let slots : Some slot ≡ Some s = sym (was.filed slot r there) ∙ ap (λ (k : Key). find cmp_key k keys) (tied_is r.key a.key u) ∙ at in
              absurd (other (sym (one slot s slots)))
          | inr u ↦ left ∙ (rw u at)
        ]
  ];
}

-- ---- a reply comes in the place of one with its key

renewed_all : (cells new : Cells) (slot : ℕ) (a r : CachedReply) (es : List (Key × ℕ)) → get cells slot ≡ Some a → a.key ≡ r.key → Updates cells new slot (Some r) → AllByRecursion (Holds cells) es → AllByRecursion (Holds new) es
renewed_all cells new slot a r [] there key up h = tt
renewed_all cells new slot a r (e ∷ es) there key up h = (
  elim (cases_Bool (e.1 == slot)) [
    | inl t ↦
        let is : e.1 ≡ slot = eqb-true e.1 slot t in
        let same : a ≡ h.0.0 = one a h.0.0 (sym there ∙ ap (get cells) (sym is) ∙ h.0.1) in
        (r, ap (get new) is ∙ up.changed, sym key ∙ ap (λ (x : CachedReply). x.key) same ∙ h.0.2)
    | inr t ↦ (h.0.0, up.others e.1 (apart e.1 slot t) ∙ h.0.1, h.0.2)
  ],
  renewed_all cells new slot a r es there key up h.1,
)

pub filed_renewed : (keys : List (Key × ℕ)) (cells new : Cells) (slot : ℕ) (a r : CachedReply) → AreFiled (stored keys cells) → get cells slot ≡ Some a → a.key ≡ r.key → Updates cells new slot (Some r) → AreFiled (stored keys new)
filed_renewed keys cells new slot a r was there key up = record {
  order = was.order;
  held = renewed_all cells new slot a r keys there key up was.held;
  filed = λ s b is. elim (cases_Bool (s == slot)) [
    | inl t ↦
        let same : s ≡ slot = eqb-true s slot t in
        let own : r ≡ b = one r b (sym up.changed ∙ ap (get new) (sym same) ∙ is) in
        let at : find cmp_key a.key keys ≡ Some slot = was.filed slot a there in
        ap (λ (x : CachedReply). find cmp_key x.key keys) (sym own) ∙ ap (λ (k : Key). find cmp_key k keys) (sym key) ∙ at ∙ ap Some (sym same)
    | inr t ↦ was.filed s b (sym (up.others s (apart s slot t)) ∙ is)
  ];
}

-- The list of a store's replies, by what is found in it.
use Rattle.std.proofs.Common.{◌≡◌, ◌≢◌, ℕ, ◌==◌, ◌&&◌, Bool, true, false, not, cond, inl, inr, T, List, [], ◌∷◌, ◌++◌, length, Option, Some, None, refl, sym, ap, subst, ◌∙◌, arith, suc}
use Rattle.std.specs.Prelude.{IfNone, IfSome, is_some, option_and_then, option_map}
use Rattle.std.specs.List.{All, AllByRecursion, filter, find as first, list_any}
use Rattle.std.specs.Ordering.{eq_by_cmp, is_lt}
use Rattle.std.specs.FinMap.Entries.{below_all, find, find-put, is_sorted, is_sorted-put}
use Rattle.std.proofs.lemmas.Bool.{cases_Bool, cond-false, cond-true, eqb-true}
use Rattle.std.proofs.lemmas.List.Elements.{All-cons, All-nil, filter-append}
use Rattle.std.proofs.lemmas.List.Kept.{AllPairs-cons}
use Rattle.lb_index_slots.specs.Slots.{Updates, get}
use Rattle.lb_wire.specs.declared.key.Key.{Key}
use Rattle.lb_cache.specs.declared.reply.CachedReply.{CachedReply}
use Rattle.lb_cache.specs.Cache.{Ascends, kept_for, looked, placed}
use Rattle.lb_cache.specs.Keys.{slots_of}
use Rattle.lb_cache.specs.Reply.{before_key, cmp_key, has_key, has_other, hit_of, is_before}
use Rattle.lb_cache.specs.Store.{AreFiled, Holds, Stored, in_slot, others, replies_at, replies_of, stays, with_reply}
use Rattle.lb_cache.proofs.KeyOrder.{is_same, key_total, same_is}
use Rattle.lb_cache.proofs.Listed.{Sorted, none_here, kept_filter, kept_is, pairs, placed_is, same_replies, sorted_filter, ties}
use Rattle.lb_cache.proofs.Marked.{Cells}
use Rattle.lb_cache.proofs.Shelved.{apart, found_holds, one}

-- ---- keys and slots as a list

-- what is found under a key is what its slot holds
pub kept_at : (cells : Cells) (es : List (Key × ℕ)) (q : Key) → AllByRecursion (Holds cells) es → kept_for (replies_at (slots_of es) cells) q ≡ option_and_then (get cells) (find cmp_key q es)
kept_at cells [] q h = refl
kept_at cells (e ∷ es) q h =
    let r : CachedReply = h.0.0 in
    let own : has_key q r ≡ eq_by_cmp cmp_key q e.0 = sym (ties q r) ∙ ap (eq_by_cmp cmp_key q) h.0.2 in
    let head : kept_for (with_reply (get cells e.1) (replies_at (slots_of es) cells)) q ≡ cond (has_key q r) (Some r) (kept_for (replies_at (slots_of es) cells) q) =
    ap (λ (o : Option CachedReply). kept_for (with_reply o (replies_at (slots_of es) cells)) q) h.0.1 in
    head ∙ elim (cases_Bool (eq_by_cmp cmp_key q e.0)) [
      | inl t ↦ let on : has_key q r ≡ true = own ∙ t in rw (t, on) (sym h.0.1)
      | inr t ↦ let off : has_key q r ≡ false = own ∙ t in rw (t, off) (kept_at cells es q h.1)
    ]

left : (a b : Bool) → T (a && b) → T a
left true b p = tt
left false b p = p

right : (a b : Bool) → T (a && b) → T b
right true b p = p
right false b p = absurd p

both : (a b : Bool) → T a → T b → T (a && b)
both true b p q = q
both false b p q = p

below_at : (cells : Cells) (es : List (Key × ℕ)) (k : Key) → AllByRecursion (Holds cells) es → T (below_all cmp_key k es) → T (below_all cmp_key k (pairs (replies_at (slots_of es) cells)))
below_at cells [] k h below = tt
below_at cells (e ∷ es) k h below =
    let head : T (is_lt (cmp_key k h.0.0.key)) = subst (λ (j : Key). T (is_lt (cmp_key k j))) (sym h.0.2) (left _ _ below) in
    subst (λ (o : Option CachedReply). T (below_all cmp_key k (pairs (with_reply o (replies_at (slots_of es) cells))))) (sym h.0.1)
    (both (is_lt (cmp_key k h.0.0.key)) _ head (below_at cells es k h.1 (right _ _ below)))

sorted_at : (cells : Cells) (es : List (Key × ℕ)) → AllByRecursion (Holds cells) es → T (is_sorted cmp_key es) → Sorted (replies_at (slots_of es) cells)
sorted_at cells [] h sorted = tt
sorted_at cells (e ∷ es) h sorted =
    let first : T (below_all cmp_key h.0.0.key es) = subst (λ (j : Key). T (below_all cmp_key j es)) (sym h.0.2) (left _ _ sorted) in
    subst (λ (o : Option CachedReply). Sorted (with_reply o (replies_at (slots_of es) cells))) (sym h.0.1)
    (both (below_all cmp_key h.0.0.key (pairs (replies_at (slots_of es) cells))) _ (below_at cells es h.0.0.key h.1 first) (sorted_at cells es h.1 (right _ _ sorted)))

pub sorted_view : (s : Stored) → AreFiled s → Sorted (replies_of s)
sorted_view s are = sorted_at s.cells s.keys are.held are.order

length_at : (cells : Cells) (es : List (Key × ℕ)) → AllByRecursion (Holds cells) es → length (replies_at (slots_of es) cells) ≡ length es
length_at cells [] h = refl
length_at cells (e ∷ es) h = ap (λ (o : Option CachedReply). length (with_reply o (replies_at (slots_of es) cells))) h.0.1 ∙ ap suc (length_at cells es h.1)

pub length_view : (s : Stored) → AreFiled s → length (replies_of s) ≡ length s.keys
length_view s are = length_at s.cells s.keys are.held

-- the slots are seen by what they hold alone
same_at : (a b : Cells) (slots : List ℕ) → ((s : ℕ) → get b s ≡ get a s) → replies_at slots b ≡ replies_at slots a
same_at a b [] same = refl
same_at a b (slot ∷ slots) same = ap (λ (o : Option CachedReply). with_reply o (replies_at slots b)) (same slot) ∙ ap (with_reply (get a slot)) (same_at a b slots same)

pub same_view : (a b : Stored) → b.keys ≡ a.keys → ((s : ℕ) → in_slot b s ≡ in_slot a s) → replies_of b ≡ replies_of a
same_view a b keys same = ap (λ (es : List (Key × ℕ)). replies_at (slots_of es) b.cells) keys ∙ same_at a.cells b.cells (slots_of a.keys) same

-- ---- what is found, and where it stands

pub there : (s : Stored) (slot : ℕ) (r : CachedReply) → AreFiled s → in_slot s slot ≡ Some r → kept_for (replies_of s) r.key ≡ Some r
there s slot r are is = kept_at s.cells s.keys r.key are.held ∙ ap (option_and_then (get s.cells)) (are.filed slot r is) ∙ is

pub there_for : (s : Stored) (slot : ℕ) (r : CachedReply) (q : Key) → AreFiled s → in_slot s slot ≡ Some r → has_key q r ≡ true → kept_for (replies_of s) q ≡ Some r
there_for s slot r q are is has = subst (λ (k : Key). kept_for (replies_of s) k ≡ Some r) (same_is r.key q has) (there s slot r are is)

gives_by : (s : Stored) (q : Key) (r : CachedReply) (at : Option ℕ) → AreFiled s → find cmp_key q s.keys ≡ at → option_and_then (get s.cells) at ≡ Some r → (slot : ℕ) × (in_slot s slot ≡ Some r) × (has_key q r ≡ true)
gives_by s q r None are at is = absurd (cc)
gives_by s q r (Some slot) are at is =
    let holds = found_holds s.cells s.keys q slot are.held at in
    let same : holds.0 ≡ r = one holds.0 r (sym holds.1 ∙ is) in
    (slot, is, is_same r.key q (ap (λ (x : CachedReply). x.key) (sym same) ∙ holds.2))

pub gives : (s : Stored) (q : Key) (r : CachedReply) → AreFiled s → kept_for (replies_of s) q ≡ Some r → (slot : ℕ) × (in_slot s slot ≡ Some r) × (has_key q r ≡ true)
gives s q r are is = gives_by s q r (find cmp_key q s.keys) are refl (sym (kept_at s.cells s.keys q are.held) ∙ is)

-- a key's slot holds what is found under it
pub found_at : (s : Stored) (q : Key) (slot : ℕ) → AreFiled s → find cmp_key q s.keys ≡ Some slot → kept_for (replies_of s) q ≡ in_slot s slot
found_at s q slot are at = kept_at s.cells s.keys q are.held ∙ ap (option_and_then (get s.cells)) at

pub found_none : (s : Stored) (q : Key) → AreFiled s → find cmp_key q s.keys ≡ None → kept_for (replies_of s) q ≡ None
found_none s q are at = kept_at s.cells s.keys q are.held ∙ ap (option_and_then (get s.cells)) at

-- ---- each slot keeps what passes a test

some_stays : (p : CachedReply → Bool) (o : Option CachedReply) (r : CachedReply) → stays p o ≡ Some r → (o ≡ Some r) × (p r ≡ true)
some_stays p None r is = absurd (cc)
some_stays p (Some a) r is = elim (cases_Bool (p a)) [
  | inl t ↦
      let same : Some a ≡ Some r = rw t at is in
      (same, ap p (sym (one a r same)) ∙ t)
  | inr t ↦ let none : None ≡ Some r = rw t at is in absurd (cc)
]

stays_on : (p : CachedReply → Bool) (a : CachedReply) → p a ≡ true → stays p (Some a) ≡ Some a
stays_on p a on = rw on refl

stays_off : (p : CachedReply → Bool) (a : CachedReply) → p a ≡ false → stays p (Some a) ≡ None
stays_off p a off = rw off refl

-- where one that does not stay is taken out, the same stay
pub same_stay : (p : CachedReply → Bool) (o n : Stored) (slot : ℕ) (r : CachedReply) → in_slot o slot ≡ Some r → p r ≡ false → Updates o.cells n.cells slot None → (s : ℕ) → stays p (in_slot n s) ≡ stays p (in_slot o s)
same_stay p o n slot r there off up s = elim (cases_Bool (s == slot)) [
  | inl t ↦
      let same : s ≡ slot = eqb-true s slot t in
      ap (λ (k : ℕ). stays p (in_slot n k)) same ∙ ap (stays p) up.changed ∙ sym (stays_off p r off) ∙ ap (stays p) (sym there) ∙ ap (λ (k : ℕ). stays p (in_slot o k)) (sym same)
  | inr t ↦ ap (stays p) (up.others s (apart s slot t))
]

-- where all pass, all stay
pub all_stay : (p : CachedReply → Bool) (o : Option CachedReply) → ((r : CachedReply) → o ≡ Some r → not (p r) ≡ false) → stays p o ≡ o
all_stay p None all = refl
all_stay p (Some r) all = elim (cases_Bool (p r)) [
  | inl t ↦ rw t refl
  | inr t ↦ let off : not (p r) ≡ false = all r refl in let on : not (p r) ≡ true = ap not t in absurd (cc)
]

-- what is found after is found before, and passes
found_before : (p : CachedReply → Bool) (o n : Stored) (q : Key) (r : CachedReply) → AreFiled o → AreFiled n → ((s : ℕ) → in_slot n s ≡ stays p (in_slot o s)) → kept_for (replies_of n) q ≡ Some r → (kept_for (replies_of o) q ≡ Some r) × (p r ≡ true)
found_before p o n q r are_o are_n left is =
    let at = gives n q r are_n is in
    let was = some_stays p (in_slot o at.0) r (sym (left at.0) ∙ at.1) in
    (there_for o at.0 r q are_o was.0 at.2, was.1)

filter_gone : (p : CachedReply → Bool) (o n : Stored) (q : Key) (a : CachedReply) (g : Option CachedReply) → AreFiled o → AreFiled n → ((s : ℕ) → in_slot n s ≡ stays p (in_slot o s)) → kept_for (replies_of o) q ≡ Some a → kept_for (replies_of n) q ≡ g → p a ≡ false → g ≡ None
filter_gone p o n q a None are_o are_n left is_o is_n off = refl
filter_gone p o n q a (Some r) are_o are_n left is_o is_n off =
    let was = found_before p o n q r are_o are_n left is_n in
    let same : a ≡ r = one a r (sym is_o ∙ was.0) in
    let on : p a ≡ true = ap p same ∙ was.1 in
    absurd (cc)

filter_point : (p : CachedReply → Bool) (o n : Stored) (q : Key) (f g : Option CachedReply) → AreFiled o → AreFiled n → ((s : ℕ) → in_slot n s ≡ stays p (in_slot o s)) → kept_for (replies_of o) q ≡ f → kept_for (replies_of n) q ≡ g → g ≡ stays p f
filter_point p o n q None None are_o are_n left is_o is_n = refl
filter_point p o n q None (Some r) are_o are_n left is_o is_n =
    let was = found_before p o n q r are_o are_n left is_n in
    let no : None ≡ Some r = sym is_o ∙ was.0 in
    absurd (cc)
filter_point p o n q (Some a) g are_o are_n left is_o is_n =
    let at = gives o q a are_o is_o in
    elim (cases_Bool (p a)) [
      | inl t ↦
          let stands : in_slot n at.0 ≡ Some a = left at.0 ∙ ap (stays p) at.1 ∙ stays_on p a t in
          sym is_n ∙ there_for n at.0 a q are_n stands at.2 ∙ sym (stays_on p a t)
      | inr t ↦ filter_gone p o n q a g are_o are_n left is_o is_n t ∙ sym (stays_off p a t)
    ]

-- where each slot keeps what passes, the replies are those that pass
pub replies_filter : (p : CachedReply → Bool) (o n : Stored) → AreFiled o → AreFiled n → ((s : ℕ) → in_slot n s ≡ stays p (in_slot o s)) → replies_of n ≡ filter p (replies_of o)
replies_filter p o n are_o are_n left =
    same_replies (replies_of n) (filter p (replies_of o)) (sorted_view n are_n) (sorted_filter p (replies_of o) (sorted_view o are_o))
    (λ q. filter_point p o n q (kept_for (replies_of o) q) (kept_for (replies_of n) q) are_o are_n left refl refl ∙ sym (kept_filter p q (replies_of o) (sorted_view o are_o)))

-- ---- a reply comes in a slot: one that had none, or one that had its key

abbrev Room : Stored → ℕ → CachedReply → Type 0
Room o slot r = (a : CachedReply) → in_slot o slot ≡ Some a → has_key r.key a ≡ true

not_same : (q : Key) (r b : CachedReply) → r ≡ b → has_key q r ≡ false → has_key q b ≡ false
not_same q r b is off = ap (has_key q) (sym is) ∙ off

-- a key ties with one that is the same as another one, where that ties
through : (q : Key) (a r : CachedReply) → has_key q a ≡ true → has_key r.key a ≡ true → has_key q r ≡ true
through q a r first second = is_same r.key q (sym (same_is a.key r.key second) ∙ same_is a.key q first)

changed_none : (o n : Stored) (slot : ℕ) (r : CachedReply) (q : Key) (g : Option CachedReply) → AreFiled o → AreFiled n → Updates o.cells n.cells slot (Some r) → has_key q r ≡ false → kept_for (replies_of o) q ≡ None → kept_for (replies_of n) q ≡ g → g ≡ None
changed_none o n slot r q None are_o are_n up off is_o is_n = refl
changed_none o n slot r q (Some b) are_o are_n up off is_o is_n =
    let at = gives n q b are_n is_n in
    elim (cases_Bool (at.0 == slot)) [
      | inl t ↦
          let same : r ≡ b = one r b (sym up.changed ∙ ap (in_slot n) (sym (eqb-true at.0 slot t)) ∙ at.1) in
          let no : has_key q b ≡ false = not_same q r b same off in
          let yes : has_key q b ≡ true = at.2 in
          absurd (cc)
      | inr t ↦
          let old : in_slot o at.0 ≡ Some b = sym (up.others at.0 (apart at.0 slot t)) ∙ at.1 in
          let some : None ≡ Some b = sym is_o ∙ there_for o at.0 b q are_o old at.2 in
          absurd (cc)
    ]

changed_some : (o n : Stored) (slot : ℕ) (r : CachedReply) (q : Key) (f : Option CachedReply) → AreFiled o → AreFiled n → Room o slot r → Updates o.cells n.cells slot (Some r) → has_key q r ≡ false → kept_for (replies_of o) q ≡ f → kept_for (replies_of n) q ≡ f
changed_some o n slot r q None are_o are_n room up off is_o = changed_none o n slot r q (kept_for (replies_of n) q) are_o are_n up off is_o refl
changed_some o n slot r q (Some a) are_o are_n room up off is_o =
    let at = gives o q a are_o is_o in
    elim (cases_Bool (at.0 == slot)) [
      | inl t ↦
          let own : has_key r.key a ≡ true = room a (ap (in_slot o) (sym (eqb-true at.0 slot t)) ∙ at.1) in
          let yes : has_key q r ≡ true = through q a r at.2 own in
          absurd (cc)
      | inr t ↦ there_for n at.0 a q are_n (up.others at.0 (apart at.0 slot t) ∙ at.1) at.2
    ]

pub changed_at : (o n : Stored) (slot : ℕ) (r : CachedReply) (q : Key) → AreFiled o → AreFiled n → Room o slot r → Updates o.cells n.cells slot (Some r) → kept_for (replies_of n) q ≡ cond (has_key q r) (Some r) (kept_for (replies_of o) q)
changed_at o n slot r q are_o are_n room up = elim (cases_Bool (has_key q r)) [
  | inl t ↦ there_for n slot r q are_n up.changed t ∙ (rw t refl)
  | inr t ↦ changed_some o n slot r q (kept_for (replies_of o) q) are_o are_n room up t refl ∙ (rw t refl)
]

sorted_placed : (r : CachedReply) (xs : List CachedReply) → Sorted xs → kept_for xs r.key ≡ None → Sorted (placed r xs)
sorted_placed r xs sorted fresh =
    subst (λ (es : List (Key × CachedReply)). T (is_sorted cmp_key es)) (sym (placed_is r xs sorted fresh)) (is_sorted-put cmp_key key_total r.key r (pairs xs) sorted)

pub kept_placed : (q : Key) (r : CachedReply) (xs : List CachedReply) → Sorted xs → kept_for xs r.key ≡ None → kept_for (placed r xs) q ≡ cond (has_key q r) (Some r) (kept_for xs q)
kept_placed q r xs sorted fresh =
    kept_is q (placed r xs) ∙ ap (find cmp_key q) (placed_is r xs sorted fresh) ∙ find-put cmp_key key_total q r.key r (pairs xs)
    ∙ ap (λ (b : Bool). cond b (Some r) (find cmp_key q (pairs xs))) (ties q r) ∙ ap (cond (has_key q r) (Some r)) (sym (kept_is q xs))

-- a reply comes among the others
pub replies_placed : (o n : Stored) (slot : ℕ) (r : CachedReply) → AreFiled o → AreFiled n → in_slot o slot ≡ None → Updates o.cells n.cells slot (Some r) → kept_for (replies_of o) r.key ≡ None → replies_of n ≡ placed r (replies_of o)
replies_placed o n slot r are_o are_n vacant up fresh =
    let room : Room o slot r = λ a is. (let none : None ≡ Some a = sym vacant ∙ is in absurd (cc)) in
    same_replies (replies_of n) (placed r (replies_of o)) (sorted_view n are_n) (sorted_placed r (replies_of o) (sorted_view o are_o) fresh)
    (λ q. changed_at o n slot r q are_o are_n room up ∙ sym (kept_placed q r (replies_of o) (sorted_view o are_o) fresh))

own_has : (r : CachedReply) → has_key r.key r ≡ true
own_has r = is_same r.key r.key refl

other_stays : (q : Key) (r : CachedReply) (f : Option CachedReply) → ((b : CachedReply) → f ≡ Some b → has_key q b ≡ true) → has_key q r ≡ false → stays (has_other r.key) f ≡ f
other_stays q r None has off = refl
other_stays q r (Some b) has off = elim (cases_Bool (has_key r.key b)) [
  | inl t ↦
      let yes : has_key q r ≡ true = through q b r (has b refl) t in
      absurd (cc)
  | inr t ↦ rw t refl
]

same_rest : (o : Stored) (q : Key) (r : CachedReply) → AreFiled o → cond (has_key q r) (Some r) (kept_for (replies_of o) q) ≡ cond (has_key q r) (Some r) (stays (has_other r.key) (kept_for (replies_of o) q))
same_rest o q r are = elim (cases_Bool (has_key q r)) [
  | inl t ↦ rw t refl
  | inr t ↦ rw t (sym (other_stays q r (kept_for (replies_of o) q) (λ b found. (gives o q b are found).2) t))
]

-- a reply comes in the place of the one with its key
pub replies_renewed : (o n : Stored) (slot : ℕ) (a r : CachedReply) → AreFiled o → AreFiled n → in_slot o slot ≡ Some a → a.key ≡ r.key → Updates o.cells n.cells slot (Some r) → replies_of n ≡ placed r (filter (has_other r.key) (replies_of o))
replies_renewed o n slot a r are_o are_n is key up =
    let xs : List CachedReply = filter (has_other r.key) (replies_of o) in
    let sorted : Sorted xs = sorted_filter (has_other r.key) (replies_of o) (sorted_view o are_o) in
    let own : has_key r.key a ≡ true = is_same a.key r.key key in
    let off : has_other r.key a ≡ false = ap not own in
    let fresh : kept_for xs r.key ≡ None =
    kept_filter (has_other r.key) r.key (replies_of o) (sorted_view o are_o) ∙ ap (stays (has_other r.key)) (there_for o slot a r.key are_o is own) ∙ stays_off (has_other r.key) a off in
    let room : Room o slot r = λ b there_b. is_same b.key r.key (ap (λ (x : CachedReply). x.key) (one b a (sym there_b ∙ is)) ∙ key) in
    same_replies (replies_of n) (placed r xs) (sorted_view n are_n) (sorted_placed r xs sorted fresh)
    (λ q. changed_at o n slot r q are_o are_n room up ∙ same_rest o q r are_o ∙ sym (kept_placed q r xs sorted fresh ∙ ap (cond (has_key q r) (Some r)) (kept_filter (has_other r.key) q (replies_of o) (sorted_view o are_o))))

-- ---- a reply comes, and the dead go but for it

-- whether a reply has this key or passes the test
abbrev Either : Key → (CachedReply → Bool) → CachedReply → Bool
Either key p a = cond (has_key key a) true (p a)

filter_head : (p : CachedReply → Bool) (r : CachedReply) (xs : List CachedReply) → p r ≡ true → filter p (r ∷ xs) ≡ r ∷ filter p xs
filter_head p r xs on = cond-true _ _ _ on

filter_past : (p : CachedReply → Bool) (r : CachedReply) (xs : List CachedReply) → p r ≡ false → filter p (r ∷ xs) ≡ filter p xs
filter_past p r xs off = cond-false _ _ _ off

filters_swap : (p q : CachedReply → Bool) (xs : List CachedReply) → filter p (filter q xs) ≡ filter q (filter p xs)
filters_swap p q [] = refl
filters_swap p q (x ∷ xs) =
    let rest = filters_swap p q xs in
    elim (cases_Bool (p x)) [
      | inl t ↦ elim (cases_Bool (q x)) [
        | inl u ↦
            ap (filter p) (filter_head q x xs u) ∙ filter_head p x (filter q xs) t ∙ ap (λ (ys : List CachedReply). x ∷ ys) rest
            ∙ sym (filter_head q x (filter p xs) u) ∙ ap (filter q) (sym (filter_head p x xs t))
        | inr u ↦ ap (filter p) (filter_past q x xs u) ∙ rest ∙ sym (filter_past q x (filter p xs) u) ∙ ap (filter q) (sym (filter_head p x xs t))
      ]
      | inr t ↦ elim (cases_Bool (q x)) [
        | inl u ↦ ap (filter p) (filter_head q x xs u) ∙ filter_past p x (filter q xs) t ∙ rest ∙ ap (filter q) (sym (filter_past p x xs t))
        | inr u ↦ ap (filter p) (filter_past q x xs u) ∙ rest ∙ ap (filter q) (sym (filter_past p x xs t))
      ]
    ]

filter_placed : (p : CachedReply → Bool) (r : CachedReply) (xs : List CachedReply) → p r ≡ true → filter p (placed r xs) ≡ placed r (filter p xs)
filter_placed p r xs on =
    let n : CachedReply → Bool = λ o. not (is_before r.key o) in
    filter-append p (filter (is_before r.key) xs) (r ∷ filter n xs)
    ∙ ap (λ (ys : List CachedReply). filter p (filter (is_before r.key) xs) ++ ys) (filter_head p r (filter n xs) on)
    ∙ ap (λ (ys : List CachedReply). ys ++ r ∷ filter p (filter n xs)) (filters_swap p (is_before r.key) xs)
    ∙ ap (λ (ys : List CachedReply). filter (is_before r.key) (filter p xs) ++ r ∷ ys) (filters_swap p n xs)

-- where none has the key, the test alone decides
filter_either : (key : Key) (p : CachedReply → Bool) (xs : List CachedReply) → kept_for xs key ≡ None → filter (Either key p) xs ≡ filter p xs
filter_either key p [] none = refl
filter_either key p (x ∷ xs) none =
    let n = none_here key x xs none in
    let same : Either key p x ≡ p x = rw n.0 refl in
    elim (cases_Bool (p x)) [
      | inl t ↦ let on : Either key p x ≡ true = same ∙ t in rw (on, t) (ap (λ (ys : List CachedReply). x ∷ ys) (filter_either key p xs n.1))
      | inr t ↦ let off : Either key p x ≡ false = same ∙ t in rw (off, t) (filter_either key p xs n.1)
    ]

other_key : (m : Stored) (s slot : ℕ) (a r : CachedReply) → AreFiled m → in_slot m slot ≡ Some r → in_slot m s ≡ Some a → s ≢ slot → has_key r.key a ≡ false
other_key m s slot a r are own there other = elim (cases_Bool (has_key r.key a)) [
  | inl t ↦
      let slots : Some s ≡ Some slot = sym (are.filed s a there) ∙ ap (λ (k : Key). find cmp_key k m.keys) (same_is a.key r.key t) ∙ are.filed slot r own in
      absurd (other (one s slot slots))
  | inr t ↦ t
]

stays_either : (p : CachedReply → Bool) (m : Stored) (s slot : ℕ) (r : CachedReply) (o : Option CachedReply) → AreFiled m → in_slot m slot ≡ Some r → in_slot m s ≡ o → s ≢ slot → stays p o ≡ stays (Either r.key p) o
stays_either p m s slot r None are own there other = refl
stays_either p m s slot r (Some a) are own there other =
    let off : has_key r.key a ≡ false = other_key m s slot a r are own there other in
    let same : Either r.key p a ≡ p a = rw off refl in
    ap (λ (b : Bool). cond b (Some a) None) (sym same)

pub replies_for_dead : (p : CachedReply → Bool) (o m n : Stored) (slot : ℕ) (r : CachedReply) → AreFiled o → AreFiled m → AreFiled n → in_slot o slot ≡ None → Updates o.cells m.cells slot (Some r) → kept_for (replies_of o) r.key ≡ None
    → ((s : ℕ) → s ≢ slot → in_slot n s ≡ stays p (in_slot m s)) → in_slot n slot ≡ in_slot m slot → replies_of n ≡ placed r (filter p (replies_of o))
replies_for_dead p o m n slot r are_o are_m are_n vacant up fresh left kept =
    let e : CachedReply → Bool = Either r.key p in
    let on : e r ≡ true = rw (own_has r) refl in
    let both : (s : ℕ) → in_slot n s ≡ stays e (in_slot m s) = λ s. elim (cases_Bool (s == slot)) [
      | inl t ↦
          ap (in_slot n) (eqb-true s slot t) ∙ kept ∙ up.changed ∙ sym (stays_on e r on) ∙ ap (stays e) (sym up.changed) ∙ ap (λ (k : ℕ). stays e (in_slot m k)) (sym (eqb-true s slot t))
      | inr t ↦ left s (apart s slot t) ∙ stays_either p m s slot r (in_slot m s) are_m up.changed refl (apart s slot t)
    ] in
    replies_filter e m n are_m are_n both ∙ ap (filter e) (replies_placed o m slot r are_o are_m vacant up fresh) ∙ filter_placed e r (replies_of o) on ∙ ap (placed r) (filter_either r.key p (replies_of o) fresh)

-- ---- whether one is dead

any_found : (t p : CachedReply → Bool) (r : CachedReply) (rs : List CachedReply) → first t rs ≡ Some r → p r ≡ true → list_any p rs ≡ true
any_found t p r [] is on = absurd (cc)
any_found t p r (x ∷ xs) is on = elim (cases_Bool (p x)) [
  | inl u ↦ rw u refl
  | inr u ↦ elim (cases_Bool (t x)) [
    | inl v ↦
        let same : Some x ≡ Some r = rw v at is in
        let e : x ≡ r = one x r same in
        let off : p r ≡ false = ap p (sym e) ∙ u in
        absurd (cc)
    | inr v ↦ rw u (any_found t p r xs (rw v at is) on)
  ]
]

any_filter : (p : CachedReply → Bool) (rs : List CachedReply) → list_any p (filter (others p) rs) ≡ false
any_filter p [] = refl
any_filter p (r ∷ rs) = elim (cases_Bool (p r)) [
  | inl t ↦ rw t (any_filter p rs)
  | inr t ↦ rw t (rw t (any_filter p rs))
]

not_off : (b : Bool) → b ≡ false → not (not b) ≡ false
not_off b is = ap (λ (x : Bool). not (not x)) is

pub any_is : (p : CachedReply → Bool) (s : Stored) (o : Option ℕ) → AreFiled s → IfSome o (λ slot. (r : CachedReply) × (in_slot s slot ≡ Some r) × (p r ≡ true)) → IfNone o ((n : ℕ) (r : CachedReply) → in_slot s n ≡ Some r → p r ≡ false) → is_some o ≡ list_any p (replies_of s)
any_is p s (Some slot) are some none = sym (any_found (has_key some.0.key) p some.0 (replies_of s) (there s slot some.0 are some.1) some.2)
any_is p s None are some none =
    let same : replies_of s ≡ filter (others p) (replies_of s) = replies_filter (others p) s s are are (λ n. sym (all_stay (others p) (in_slot s n) (λ r is. not_off (p r) (none n r is)))) in
    sym (subst (λ (rs : List CachedReply). list_any p rs ≡ false) (sym same) (any_filter p (replies_of s)))

-- whether a key is there
has_any : (q : Key) (rs : List CachedReply) → list_any (has_key q) rs ≡ is_some (kept_for rs q)
has_any q [] = refl
has_any q (r ∷ rs) = elim (cases_Bool (has_key q r)) [
  | inl t ↦ rw t refl
  | inr t ↦ rw t (has_any q rs)
]

pub key_there : (s : Stored) (q : Key) (slot : ℕ) → AreFiled s → find cmp_key q s.keys ≡ Some slot → list_any (has_key q) (replies_of s) ≡ true
key_there s q slot are found =
    let holds = found_holds s.cells s.keys q slot are.held found in
    has_any q (replies_of s) ∙ ap is_some (found_at s q slot are found ∙ holds.1)

pub key_absent : (s : Stored) (q : Key) → AreFiled s → find cmp_key q s.keys ≡ None → list_any (has_key q) (replies_of s) ≡ false
key_absent s q are none = has_any q (replies_of s) ∙ ap is_some (found_none s q are none)

-- ---- the order

truth : (b : Bool) → T b → b ≡ true
truth true h = refl
truth false h = absurd h

all_below : (k : Key) (rs : List CachedReply) → T (below_all cmp_key k (pairs rs)) → All (λ r. before_key k r.key ≡ true) rs
all_below k [] h = All-nil (λ r. before_key k r.key ≡ true)
all_below k (r ∷ rs) h = All-cons (λ r. before_key k r.key ≡ true) r rs (truth (before_key k r.key) (left _ _ h)) (all_below k rs (right _ _ h))

ascends_of : (rs : List CachedReply) → Sorted rs → Ascends rs
ascends_of [] h = λ i j d lt within. absurd (omega (arith, within))
ascends_of (r ∷ rs) h = AllPairs-cons (λ a b. before_key a.key b.key ≡ true) r rs (all_below r.key rs (left _ _ h)) (ascends_of rs (right _ _ h))

pub ascends_view : (s : Stored) → AreFiled s → Ascends (replies_of s)
ascends_view s are = ascends_of (replies_of s) (sorted_view s are)

-- ---- looking

pub look_missing : {X : Type 0} (f : X → List ℕ × ℕ) (o : Option X) (s : Stored) (q : Key) (now : ℕ) → AreFiled s → o ≡ None → find cmp_key q s.keys ≡ None → option_map f o ≡ looked (replies_of s) q now
look_missing f o s q now are is none = ap (option_map f) is ∙ sym (ap (option_and_then (hit_of now)) (found_none s q are none))

pub look_found : (hit : Option (List ℕ × ℕ)) (r : CachedReply) (s : Stored) (q : Key) (slot now : ℕ) → AreFiled s → find cmp_key q s.keys ≡ Some slot → Some r ≡ in_slot s slot → hit ≡ hit_of now r → hit ≡ looked (replies_of s) q now
look_found hit r s q slot now are found there is = is ∙ sym (ap (option_and_then (hit_of now)) (found_at s q slot are found ∙ sym there))

-- a key's slot is not without a reply
pub never_empty : (s : Stored) (q : Key) (slot : ℕ) → AreFiled s → find cmp_key q s.keys ≡ Some slot → None ≡ in_slot s slot → ⊥
never_empty s q slot are found none =
    let holds = found_holds s.cells s.keys q slot are.held found in
    let no : None ≡ Some holds.0 = none ∙ holds.1 in
    absurd (cc)

-- Keys that are cut out.
use Rattle.std.proofs.Common.{◌≡◌, ◌⊎◌, ◌&&◌, ℕ, ◌+◌, Bool, true, false, not, T, List, [], ◌∷◌, ◌++◌, map, length, Option, None, Some, IfNone, IfSome, Contains, cond, inl, inr, refl, sym, ap, subst, ◌∙◌, arith}
use Rattle.std.specs.List.{AllByRecursion}
use Rattle.std.specs.Option.{is_some}
use Rattle.std.specs.FinMap.Entries.{find, is_sorted, length-put, put}
use Rattle.std.specs.declared.cmp.Ordering.TheVariants.{Less}
use Rattle.std.proofs.lemmas.List.{length-append}
use Rattle.std.proofs.lemmas.List.Elements.{Contains-append_cases, Contains-append_left, Contains-append_right}
use Rattle.lb_wire.specs.declared.key.Key.{Key}
use Rattle.lb_wire.specs.declared.transport.Kind.{Kind}
use Rattle.lb_wire.specs.declared.transport.Kind.TheVariants.{Datagram, Stream}
use Rattle.lb_index_ranks.specs.declared.filed.Filed.{Filed}
use Rattle.lb_index_ranks.specs.Filed.{filed_at, filed_cmp, is_before, AreInOrder, IsCutOut}
use Rattle.lb_cache.proofs.CutOrder.{differ, each_back, each_front, each_has, left_order}
use Rattle.lb_cache.proofs.Members.{cons_cases, cons_here, cons_there, none_there, order_head, order_tail}
use Rattle.lb_cache.specs.Keys.{behind, entries_of, entry_of, filed_as, in_order, is_filed_within, is_within, AreKeys}
use Rattle.lb_cache.specs.Reply.{cmp_key}
use Rattle.lb_cache.proofs.KeyOrder.{key_total}
use Rattle.lb_cache.proofs.Entries.{agree}
use Rattle.lb_cache.proofs.Fronts.{within_rank}
use Rattle.lb_cache.proofs.KeySides.{both_of, find_from, find_to, from_map, key_at, seek_from, side, sorted_in}

-- what is cut out is within
cut_within : (low high : List ℕ) (items cut new : List Filed) (f : Filed) → IsCutOut (filed_at low 0) (filed_at high 0) items cut new → Contains cut f → is_filed_within low high f ≡ true
cut_within low high items cut new f out has =
    let from : is_before (filed_at low 0) f ≡ false = each_has (λ (g : Filed). is_before (filed_at low 0) g ≡ false) cut f (each_front (λ (g : Filed). is_before (filed_at low 0) g ≡ false) cut out.back out.from.after) has in
    let below : is_before (filed_at high 0) f ≡ true = each_has (λ (g : Filed). is_before (filed_at high 0) g ≡ true) cut f (each_back (λ (g : Filed). is_before (filed_at high 0) g ≡ true) out.front cut out.below.before) has in
    ap (λ (b : Bool). not b && is_before (filed_at high 0) f) from ∙ below

-- what is left was there
left_has : (low high : Filed) (items cut new : List Filed) (f : Filed) → IsCutOut low high items cut new → Contains new f → Contains items f
left_has low high items cut new f out has =
    subst (λ (xs : List Filed). Contains xs f) (sym out.whole)
    (elim (Contains-append_cases out.front out.back f (subst (λ (xs : List Filed). Contains xs f) out.left has)) [
      | inl here ↦ Contains-append_left out.front (cut ++ out.back) f here
      | inr there ↦ Contains-append_right out.front (cut ++ out.back) f (Contains-append_right cut out.back f there)
    ])

-- and what is not within is left
left_keeps : (low high : List ℕ) (items cut new : List Filed) (f : Filed) → IsCutOut (filed_at low 0) (filed_at high 0) items cut new → Contains items f → is_filed_within low high f ≡ false → Contains new f
left_keeps low high items cut new f out has off =
    subst (λ (xs : List Filed). Contains xs f) (sym out.left)
    (elim (Contains-append_cases out.front (cut ++ out.back) f (subst (λ (xs : List Filed). Contains xs f) out.whole has)) [
      | inl here ↦ Contains-append_left out.front out.back f here
      | inr there ↦ elim (Contains-append_cases cut out.back f there) [
        | inl in_cut ↦ (let on : is_filed_within low high f ≡ true = cut_within low high items cut new f out in_cut in absurd (cc (on, off)))
        | inr later ↦ Contains-append_right out.front out.back f later
      ]
    ])

left_keys : (low high : Filed) (items cut new : List Filed) → AreKeys items → IsCutOut low high items cut new → AreKeys new
left_keys low high items cut new keys out = record {
  each = λ f has. keys.each f (left_has low high items cut new f out has);
  once = λ f g a b same. keys.once f g (left_has low high items cut new f out a) (left_has low high items cut new g out b) same;
}

-- at each transport what is left was there, and what is not within is left
record AreLeft (low high : List ℕ) (d s d2 s2 : List Filed) : Type 0 where
  has : (k : Kind) (f : Filed) → Contains (side k d2 s2) f → Contains (side k d s) f
  keeps : (k : Kind) (f : Filed) → Contains (side k d s) f → is_filed_within low high f ≡ false → Contains (side k d2 s2) f

less_by : (low high : List ℕ) (d s d2 s2 : List Filed) → AreKeys d → AreKeys s → AreKeys d2 → AreKeys s2 → AreLeft low high d s d2 s2 → (key : Key) (v : ℕ) → find cmp_key key (entries_of d2 s2) ≡ Some v → find cmp_key key (entries_of d s) ≡ Some v
less_by low high d s d2 s2 kd ks kd2 ks2 left key v is =
    find_to d s key v kd ks (left.has key.kind (filed_at (filed_as key.octets) v) (find_from d2 s2 key v kd2 ks2 is))

kept_by : (low high : List ℕ) (d s d2 s2 : List Filed) → AreKeys d → AreKeys s → AreKeys d2 → AreKeys s2 → AreLeft low high d s d2 s2 → (key : Key) → is_within low high key.octets ≡ false → find cmp_key key (entries_of d2 s2) ≡ find cmp_key key (entries_of d s)
kept_by low high d s d2 s2 kd ks kd2 ks2 left key off =
    agree (find cmp_key key (entries_of d2 s2)) (find cmp_key key (entries_of d s))
    (λ v is. less_by low high d s d2 s2 kd ks kd2 ks2 left key v is)
    (λ v is. find_to d2 s2 key v kd2 ks2 (left.keeps key.kind (filed_at (filed_as key.octets) v) (find_from d s key v kd ks is) (within_rank low high (filed_at (filed_as key.octets) v) ∙ off)))

-- ---- how many there are

-- no key is there twice
abbrev NoTwice : List (Key × ℕ) → Type 0
NoTwice [] = Unit {0}
NoTwice (e ∷ es) = ((v : ℕ) → Contains es (e.0, v) → ⊥) × NoTwice es

none_found : (es : List (Key × ℕ)) (k : Key) (o : Option ℕ) → find cmp_key k (in_order es) ≡ o → ((v : ℕ) → Contains es (k, v) → ⊥) → o ≡ None
none_found es k None is fresh = refl
none_found es k (Some v) is fresh = absurd (fresh v (seek_from es k v is))

length_in : (es : List (Key × ℕ)) → NoTwice es → length (in_order es) ≡ length es
length_in [] once = refl
length_in (e ∷ es) once =
    let none : find cmp_key e.0 (in_order es) ≡ None = none_found es e.0 (find cmp_key e.0 (in_order es)) refl once.0 in
    let more : length (in_order (e ∷ es)) ≡ length (in_order es) + 1 = length-put cmp_key key_total e.0 e.1 (in_order es) (sorted_in es) ∙ ap (λ (o : Option ℕ). cond (is_some o) (length (in_order es)) (length (in_order es) + 1)) none in
    let rest : length (in_order es) ≡ length es = length_in es once.1 in
    omega (arith, more, rest)

no_twice : (kind : Kind) (items : List Filed) (rest : List (Key × ℕ)) → AreInOrder items → AreKeys items → ((e : Key × ℕ) → Contains rest e → e.0.kind ≡ kind → ⊥) → NoTwice rest → NoTwice (map (entry_of kind) items ++ rest)
no_twice kind [] rest order keys other once = once
no_twice kind (f ∷ items) rest order keys other once =
    let tail : AreKeys items = record {
      each = λ g has. keys.each g (cons_there f items g has);
      once = λ g h a b same. keys.once g h (cons_there f items g a) (cons_there f items h b) same;
    } in (
      λ v has.
          elim (Contains-append_cases (map (entry_of kind) items) rest (key_at kind (behind 0 f.key), v) has) [
            | inl here ↦
                let there : Contains items (filed_at (filed_as (behind 0 f.key)) v) = (from_map kind items (key_at kind (behind 0 f.key), v) tail.each here).1 in
                let own : Contains items (filed_at f.key v) = subst (λ (k : List ℕ). Contains items (filed_at k v)) (sym (keys.each f (cons_here f items))) there in
                let rank : f.rank ≡ v = keys.once f (filed_at f.key v) (cons_here f items) (cons_there f items (filed_at f.key v) own) refl in
                differ f (filed_at f.key v) (each_has (λ (g : Filed). filed_cmp f g ≡ Less) items (filed_at f.key v) (order_head f items order) own) (ap (λ (n : ℕ). filed_at f.key n) rank)
            | inr later ↦ other (key_at kind (behind 0 f.key), v) later refl
          ],
      no_twice kind items rest (order_tail f items order) tail other once,
    )

streams_alone : (s : List Filed) → AreKeys s → (e : Key × ℕ) → Contains (map (entry_of Stream) s) e → e.0.kind ≡ Datagram → ⊥
streams_alone s keys e has is = let kinds : Datagram ≡ Stream = sym is ∙ (from_map Stream s e keys.each has).0 in absurd (cc kinds)

append_nil : (es : List (Key × ℕ)) → es ++ [] ≡ es
append_nil [] = refl
append_nil (e ∷ es) = ap (λ (xs : List (Key × ℕ)). e ∷ xs) (append_nil es)

length_map : (kind : Kind) (items : List Filed) → length (map (entry_of kind) items) ≡ length items
length_map kind [] = refl
length_map kind (f ∷ items) = let rest : length (map (entry_of kind) items) ≡ length items = length_map kind items in omega (arith, rest)

pub length_entries : (d s : List Filed) → AreInOrder d → AreInOrder s → AreKeys d → AreKeys s → length (entries_of d s) ≡ length d + length s
length_entries d s order_d order_s kd ks =
    let streams : NoTwice (map (entry_of Stream) s) = subst NoTwice (append_nil (map (entry_of Stream) s)) (no_twice Stream s [] order_s ks (λ e has is. none_there e has) tt) in
    let all : length (entries_of d s) ≡ length (both_of d s) = length_in (both_of d s) (no_twice Datagram d (map (entry_of Stream) s) order_d kd (streams_alone s ks) streams) in
    let parts : length (both_of d s) ≡ length (map (entry_of Datagram) d) + length (map (entry_of Stream) s) = length-append (map (entry_of Datagram) d) (map (entry_of Stream) s) in
    omega (arith, all, parts, length_map Datagram d, length_map Stream s)

length_left : (low high : Filed) (items cut new : List Filed) → IsCutOut low high items cut new → length new + length cut ≡ length items
length_left low high items cut new out =
    let whole : length items ≡ length (out.front ++ (cut ++ out.back)) = ap (λ (xs : List Filed). length xs) out.whole in
    let left : length new ≡ length (out.front ++ out.back) = ap (λ (xs : List Filed). length xs) out.left in
    omega (arith, whole, left, length-append out.front (cut ++ out.back), length-append cut out.back, length-append out.front out.back)

-- what is left of the keys of both transports
pub record IsLeft (low high : List ℕ) (d s d2 s2 : List Filed) : Type 0 where
  pub datagrams : AreKeys d2
  pub streams : AreKeys s2
  pub order : T (is_sorted cmp_key (entries_of d2 s2))
  pub kept : (key : Key) → is_within low high key.octets ≡ false → find cmp_key key (entries_of d2 s2) ≡ find cmp_key key (entries_of d s)
  pub less : (key : Key) (v : ℕ) → find cmp_key key (entries_of d2 s2) ≡ Some v → find cmp_key key (entries_of d s) ≡ Some v

has_d : (low high : List ℕ) (d s d2 cut : List Filed) → IsCutOut (filed_at low 0) (filed_at high 0) d cut d2 → (k : Kind) (f : Filed) → Contains (side k d2 s) f → Contains (side k d s) f
has_d low high d s d2 cut out Datagram f has = left_has (filed_at low 0) (filed_at high 0) d cut d2 f out has
has_d low high d s d2 cut out Stream f has = has

keeps_d : (low high : List ℕ) (d s d2 cut : List Filed) → IsCutOut (filed_at low 0) (filed_at high 0) d cut d2 → (k : Kind) (f : Filed) → Contains (side k d s) f → is_filed_within low high f ≡ false → Contains (side k d2 s) f
keeps_d low high d s d2 cut out Datagram f has off = left_keeps low high d cut d2 f out has off
keeps_d low high d s d2 cut out Stream f has off = has

has_s : (low high : List ℕ) (d s s2 cut : List Filed) → IsCutOut (filed_at low 0) (filed_at high 0) s cut s2 → (k : Kind) (f : Filed) → Contains (side k d s2) f → Contains (side k d s) f
has_s low high d s s2 cut out Datagram f has = has
has_s low high d s s2 cut out Stream f has = left_has (filed_at low 0) (filed_at high 0) s cut s2 f out has

keeps_s : (low high : List ℕ) (d s s2 cut : List Filed) → IsCutOut (filed_at low 0) (filed_at high 0) s cut s2 → (k : Kind) (f : Filed) → Contains (side k d s) f → is_filed_within low high f ≡ false → Contains (side k d s2) f
keeps_s low high d s s2 cut out Datagram f has off = has
keeps_s low high d s s2 cut out Stream f has off = left_keeps low high s cut s2 f out has off

pub cut_datagrams : (low high : List ℕ) (d s d2 cut : List Filed) → AreInOrder d → AreInOrder s → AreKeys d → AreKeys s → IsCutOut (filed_at low 0) (filed_at high 0) d cut d2 → IsLeft low high d s d2 s
cut_datagrams low high d s d2 cut order_d order_s kd ks out =
    let now : AreKeys d2 = left_keys (filed_at low 0) (filed_at high 0) d cut d2 kd out in
    let left : AreLeft low high d s d2 s = record { has = has_d low high d s d2 cut out; keeps = keeps_d low high d s d2 cut out } in
    record {
      datagrams = now;
      streams = ks;
      order = sorted_in (both_of d2 s);
      kept = kept_by low high d s d2 s kd ks now ks left;
      less = less_by low high d s d2 s kd ks now ks left;
    }

pub cut_streams : (low high : List ℕ) (d s s2 cut : List Filed) → AreInOrder d → AreInOrder s → AreKeys d → AreKeys s → IsCutOut (filed_at low 0) (filed_at high 0) s cut s2 → IsLeft low high d s d s2
cut_streams low high d s s2 cut order_d order_s kd ks out =
    let now : AreKeys s2 = left_keys (filed_at low 0) (filed_at high 0) s cut s2 ks out in
    let left : AreLeft low high d s d s2 = record { has = has_s low high d s s2 cut out; keeps = keeps_s low high d s s2 cut out } in
    record {
      datagrams = kd;
      streams = now;
      order = sorted_in (both_of d s2);
      kept = kept_by low high d s d s2 kd ks kd now left;
      less = less_by low high d s d s2 kd ks kd now left;
    }

count_d : (low high : List ℕ) (d s d2 cut : List Filed) → AreInOrder d → AreInOrder s → AreKeys d → AreKeys s → IsCutOut (filed_at low 0) (filed_at high 0) d cut d2 → length (entries_of d2 s) + length cut ≡ length (entries_of d s)
count_d low high d s d2 cut order_d order_s kd ks out =
    let sizes : length d2 + length cut ≡ length d = length_left (filed_at low 0) (filed_at high 0) d cut d2 out in
    omega (arith, sizes, length_entries d s order_d order_s kd ks, length_entries d2 s (left_order (filed_at low 0) (filed_at high 0) d cut d2 order_d out) order_s (left_keys (filed_at low 0) (filed_at high 0) d cut d2 kd out) ks)

count_s : (low high : List ℕ) (d s s2 cut : List Filed) → AreInOrder d → AreInOrder s → AreKeys d → AreKeys s → IsCutOut (filed_at low 0) (filed_at high 0) s cut s2 → length (entries_of d s2) + length cut ≡ length (entries_of d s)
count_s low high d s s2 cut order_d order_s kd ks out =
    let sizes : length s2 + length cut ≡ length s = length_left (filed_at low 0) (filed_at high 0) s cut s2 out in
    omega (arith, sizes, length_entries d s order_d order_s kd ks, length_entries d s2 order_d (left_order (filed_at low 0) (filed_at high 0) s cut s2 order_s out) kd (left_keys (filed_at low 0) (filed_at high 0) s cut s2 ks out))

same_left : (low high : List ℕ) (d s : List Filed) → AreKeys d → AreKeys s → IsLeft low high d s d s
same_left low high d s kd ks = record { datagrams = kd; streams = ks; order = sorted_in (both_of d s); kept = λ key off. refl; less = λ key v is. is }

-- the same where nothing may have been cut out
pub left_datagrams : (low high : List ℕ) (d s d2 : List Filed) (r : Option (List Filed)) → AreInOrder d → AreInOrder s → AreKeys d → AreKeys s → IfSome r (λ cut. IsCutOut (filed_at low 0) (filed_at high 0) d cut d2) → IfNone r (d2 ≡ d) → IsLeft low high d s d2 s
left_datagrams low high d s d2 None order_d order_s kd ks some none = subst (λ (xs : List Filed). IsLeft low high d s xs s) (sym none) (same_left low high d s kd ks)
left_datagrams low high d s d2 (Some cut) order_d order_s kd ks some none = cut_datagrams low high d s d2 cut order_d order_s kd ks some

pub left_streams : (low high : List ℕ) (d s s2 : List Filed) (r : Option (List Filed)) → AreInOrder d → AreInOrder s → AreKeys d → AreKeys s → IfSome r (λ cut. IsCutOut (filed_at low 0) (filed_at high 0) s cut s2) → IfNone r (s2 ≡ s) → IsLeft low high d s d s2
left_streams low high d s s2 None order_d order_s kd ks some none = subst (λ (xs : List Filed). IsLeft low high d s d xs) (sym none) (same_left low high d s kd ks)
left_streams low high d s s2 (Some cut) order_d order_s kd ks some none = cut_streams low high d s s2 cut order_d order_s kd ks some

pub count_datagrams : (low high : List ℕ) (d s d2 : List Filed) (r : Option (List Filed)) → AreInOrder d → AreInOrder s → AreKeys d → AreKeys s → IfSome r (λ cut. IsCutOut (filed_at low 0) (filed_at high 0) d cut d2) → IfSome r (λ cut. length (entries_of d2 s) + length cut ≡ length (entries_of d s))
count_datagrams low high d s d2 None order_d order_s kd ks some = some
count_datagrams low high d s d2 (Some cut) order_d order_s kd ks some = count_d low high d s d2 cut order_d order_s kd ks some

pub count_streams : (low high : List ℕ) (d s s2 : List Filed) (r : Option (List Filed)) → AreInOrder d → AreInOrder s → AreKeys d → AreKeys s → IfSome r (λ cut. IsCutOut (filed_at low 0) (filed_at high 0) s cut s2) → IfSome r (λ cut. length (entries_of d s2) + length cut ≡ length (entries_of d s))
count_streams low high d s s2 None order_d order_s kd ks some = some
count_streams low high d s s2 (Some cut) order_d order_s kd ks some = count_s low high d s s2 cut order_d order_s kd ks some

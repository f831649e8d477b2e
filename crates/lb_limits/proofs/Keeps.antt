-- Edits of buckets in order, and what they keep.
use Rattle.std.proofs.Common.{◌≡◌, Bool, true, false, ◌||◌, ℕ, suc, ◌+◌, ◌-◌, ◌<◌, ◌≤◌, List, [], ◌∷◌, ◌++◌, length, get_or, set, map, take, drop, inl, inr, refl, sym, ◌∙◌, ap, arith, subst, cond, nat_lt, Contains, length-append}
use Rattle.std.specs.List.{filter, insert, list_any, All}
use Rattle.std.specs.List.Sorted.{IsNonDecreasing}
use Rattle.std.specs.declared.option.Option.TheVariants.{Some}
use Rattle.std.proofs.lemmas.Bool.{cases_Bool}
use Rattle.std.proofs.lemmas.Bool.Decides.{nat_tests}
use Rattle.std.proofs.lemmas.List.{take-append-drop}
use Rattle.std.proofs.lemmas.List.Concat.{flat_map-append}
use Rattle.std.proofs.lemmas.List.Elements.{All-append, All-cons, All-take, All-drop, All-set, All-filter, All-get_or, All-push, Contains-get_or}
use Rattle.std.proofs.lemmas.List.Kept.{AllPairs-filter, IsNonDecreasingBy-filter}
use Rattle.std.proofs.lemmas.List.Sorted.{IsNonDecreasingBy-push}
use Rattle.std.proofs.lemmas.List.Sums.{sum_by-insert, sum_by-set, sum_by-le-sum_by}
use Rattle.std.proofs.lemmas.Map.Made.{is_member-Decides}
use Rattle.circular_buffer.specs.Buffer.{last_item}
use Rattle.lb_wire.specs.declared.addr.Addr.{Addr}
use Rattle.lb_limits.specs.declared.pass.Pass.{Pass}
use Rattle.lb_limits.specs.declared.bucket.Bucket.{Bucket}
use Rattle.lb_limits.specs.Order.{same_addr}
use Rattle.lb_limits.specs.Moments.{is_recent, recent_of, ends_recent}
use Rattle.lb_limits.specs.Buckets.{Ascends, IsBucket, IsHeld, IsPlace, Keeps, is_below, begins, pass_of, bucket_passes, held_at, is_live, live_count, free_in, free_of, stays}
use Rattle.lb_limits.proofs.PutKey.{same_decides}
use Rattle.lb_limits.proofs.Recent.{filter_fewer, recent_twice, ends_tell, last_push, positive}
use Rattle.lb_limits.proofs.Pairs.{pairs_insert}
use Rattle.lb_limits.proofs.Sums.{sum_filter, flat_filter, sum_round}
use Rattle.lb_limits.proofs.Places.{stands_before, ascends_drop, ascends_set, parts_of, set_parts}

abbrev one_if : Bool → ℕ
one_if b = cond b 1 0

-- what holds at a moment holds at a later one
pub bucket_later : (m now : ℕ) (b : Bucket) → m ≤ now → IsBucket m b → IsBucket now b
bucket_later m now b le is = record { order = is.order; past = λ k d lt. omega (arith, is.past k d lt); places = is.places }

pub held_later : (m now : ℕ) (bs : List Bucket) → m ≤ now → IsHeld m bs → IsHeld now bs
held_later m now bs le is = record { order = is.order; each = λ k d lt. bucket_later m now (get_or bs k d) le (is.each k d lt) }

-- an empty bucket of a new address
module _ (moment : ℕ) (key : Addr) (place : ℕ) (bs : List Bucket) (b : Bucket) (held : IsHeld moment bs) (at : IsPlace key place bs) (source : b.source ≡ key) (empty : b.moments.items ≡ []) where
  opened_order : begins key (drop place bs) ≡ false → Ascends (insert bs place b)
  opened_order new =
      pairs_insert (λ a c. is_below c.source a ≡ true) (take place bs) b (drop place bs) (subst Ascends (sym (take-append-drop place bs)) held.order)
      (subst (λ (s : Addr). All (λ a. is_below s a ≡ true) (take place bs)) (sym source) at.below)
      (subst (λ (s : Addr). All (λ c. is_below c.source b ≡ true) (drop place bs)) source
      (λ k d lt. subst (λ (s : Addr). is_below (get_or (drop place bs) k d).source (record b { source = s }) ≡ true) (sym source) (stands_before key (drop place bs) (ascends_drop bs place held.order) at.above new k d lt)))

  opened_passes : (now : ℕ) → held_at now (insert bs place b) ≡ held_at now bs
  opened_passes now =
      let none : bucket_passes now b ≡ [] = rw empty refl in
      flat_map-append (bucket_passes now) (take place bs) (b ∷ drop place bs)
      ∙ ap (λ (ps : List Pass). held_at now (take place bs) ++ (ps ++ held_at now (drop place bs))) none
      ∙ sym (flat_map-append (bucket_passes now) (take place bs) (drop place bs))
      ∙ ap (held_at now) (take-append-drop place bs)

  opened_live : (now : ℕ) → live_count now (insert bs place b) ≡ live_count now bs
  opened_live now =
      let none : one_if (is_live now b) ≡ 0 = rw empty refl in
      omega (arith, sum_by-insert (λ c. cond (is_live now c) 1 0) bs place b)

  pub opened : begins key (drop place bs) ≡ false → IsBucket moment b → Keeps moment bs (insert bs place b)
  opened new is = record {
    held = record {
      order = opened_order new;
      each = All-append (IsBucket moment) (take place bs) (b ∷ drop place bs) (All-take (IsBucket moment) place bs held.each) (All-cons (IsBucket moment) b (drop place bs) is (All-drop (IsBucket moment) place bs held.each));
    };
    passes = λ now le. opened_passes now;
    live = λ now le. opened_live now;
  }

pub empty_bucket : (moment : ℕ) (b : Bucket) → b.moments.items ≡ [] → IsBucket moment b
empty_bucket moment b empty = record {
  order = λ i j d le within. absurd (omega (arith, ap (λ (ms : List ℕ). length ms) empty));
  past = λ k d lt. absurd (omega (arith, ap (λ (ms : List ℕ). length ms) empty));
  places = omega (arith, ap (λ (ms : List ℕ). length ms) empty);
}

pub opened_room : (key : Addr) (place : ℕ) (bs : List Bucket) (b : Bucket) → b.source ≡ key → b.moments.items ≡ [] → 0 < b.moments.capacity → 0 < free_of key (insert bs place b)
opened_room key place bs b source empty some =
    let own : same_addr key b.source ≡ true = (same_decides key b.source).1 (sym source) in
    let free : free_in key b ≡ b.moments.capacity - 0 = rw (own, empty) refl in
    omega (arith, some, sum_by-insert (free_in key) bs place b)

-- a bucket in the place of one of the same address, with the same moments that count
pub widened : (moment : ℕ) (place : ℕ) (bs : List Bucket) (b d : Bucket) → IsHeld moment bs → place < length bs → b.source ≡ (get_or bs place d).source → IsBucket moment b → ((later : ℕ) → moment ≤ later → recent_of later b.moments.items ≡ recent_of later (get_or bs place d).moments.items) → Keeps moment bs (set bs place b)
widened moment place bs b d held lt source is same =
    let old : Bucket = get_or bs place d in
    record {
      held = record {
        order = ascends_set bs place b d lt held.order source;
        each = All-set (IsBucket moment) bs place b is held.each;
      };
      passes = λ now le.
          let late : bucket_passes now b ≡ bucket_passes now old = ap (λ (s : Addr). map (pass_of s) (recent_of now b.moments.items)) source ∙ ap (λ (ms : List ℕ). map (pass_of old.source) ms) (same now le) in
          ap (held_at now) (set_parts bs place b lt)
          ∙ flat_map-append (bucket_passes now) (take place bs) (b ∷ drop (place + 1) bs)
          ∙ ap (λ (ps : List Pass). held_at now (take place bs) ++ (ps ++ held_at now (drop (place + 1) bs))) late
          ∙ sym (flat_map-append (bucket_passes now) (take place bs) (old ∷ drop (place + 1) bs))
          ∙ ap (held_at now) (sym (parts_of bs place d lt));
      live = λ now le.
          let here : one_if (is_live now b) ≡ one_if (is_live now old) = ap (λ (ms : List ℕ). one_if (nat_lt 0 (length ms))) (same now le) in
          omega (arith, sum_by-set (λ c. cond (is_live now c) 1 0) bs place b d lt);
    }

-- buckets that a sweep gives up
pub left_or : (a b : Bool) → (a || b) ≡ false → a ≡ false
left_or true b is = absurd (cc)
left_or false b is = refl

pub right_or : (a b : Bool) → (a || b) ≡ false → b ≡ false
right_or true b is = absurd (cc)
right_or false b is = is

pub no_length : (ms : List ℕ) → nat_lt 0 (length ms) ≡ false → ms ≡ []
no_length [] is = refl
no_length (m ∷ ms) is =
    let some : nat_lt 0 (suc (length ms)) ≡ true = positive (length ms) in
    absurd (cc)

pub gone : (reserved : List Addr) (moment now : ℕ) (b : Bucket) → moment ≤ now → IsBucket moment b → stays reserved moment b ≡ false → recent_of now b.moments.items ≡ []
gone reserved moment now b le is goes =
    let old : ends_recent moment (last_item b.moments.items) ≡ false = left_or (ends_recent moment (last_item b.moments.items)) (list_any (same_addr b.source) reserved) goes in
    let none : recent_of moment b.moments.items ≡ [] = no_length (recent_of moment b.moments.items) (sym (ends_tell moment b.moments.items is.order) ∙ old) in
    sym (recent_twice moment now b.moments.items le) ∙ ap (λ (ms : List ℕ). recent_of now ms) none

pub swept : (reserved : List Addr) (moment : ℕ) (bs : List Bucket) → IsHeld moment bs → Keeps moment bs (filter (stays reserved moment) bs)
swept reserved moment bs held = record {
  held = record {
    order = AllPairs-filter (λ a c. is_below c.source a ≡ true) (stays reserved moment) bs held.order;
    each = All-filter (stays reserved moment) (IsBucket moment) bs held.each;
  };
  passes = λ now le. flat_filter (IsBucket moment) (stays reserved moment) (bucket_passes now)
      (λ b is goes. ap (λ (ms : List ℕ). map (pass_of b.source) ms) (gone reserved moment now b le is goes)) bs held.each;
  live = λ now le. sum_filter (IsBucket moment) (stays reserved moment) (λ b. cond (is_live now b) 1 0)
      (λ b is goes. ap (λ (ms : List ℕ). cond (nat_lt 0 (length ms)) 1 0) (gone reserved moment now b le is goes)) bs held.each;
}

-- a bucket of a reserved address stays
pub reserved_stays : (reserved : List Addr) (moment : ℕ) (key : Addr) (b : Bucket) → Contains reserved key → stays reserved moment b ≡ false → free_in key b ≡ 0
reserved_stays reserved moment key b there goes = elim (cases_Bool (same_addr key b.source)) [
  | inr other ↦ rw other refl
  | inl own ↦
      let is : key ≡ b.source = (same_decides key b.source).0 own in
      let hit : list_any (same_addr b.source) reserved ≡ true = (is_member-Decides same_decides reserved b.source).1 (subst (Contains reserved) is there) in
      let miss : list_any (same_addr b.source) reserved ≡ false = right_or (ends_recent moment (last_item b.moments.items)) (list_any (same_addr b.source) reserved) goes in
      absurd (cc)
]

pub swept_rooms : (reserved : List Addr) (moment : ℕ) (bs : List Bucket) → IsHeld moment bs → All (λ key. 0 < free_of key bs) reserved → All (λ key. 0 < free_of key (filter (stays reserved moment) bs)) reserved
swept_rooms reserved moment bs held rooms = λ k d lt.
    let key : Addr = get_or reserved k d in
    omega (arith, rooms k d lt, sum_filter (IsBucket moment) (stays reserved moment) (free_in key) (λ b is goes. reserved_stays reserved moment key b (Contains-get_or reserved k d lt) goes) bs held.each)

one_if_most : (t : Bool) → one_if t ≤ 1
one_if_most true = omega arith
one_if_most false = omega arith

-- a bucket that is live later is live before
live_falls : (now later : ℕ) (b : Bucket) → now ≤ later → one_if (is_live later b) ≤ one_if (is_live now b)
live_falls now later b le = elim (cases_Bool (is_live now b)) [
  | inl is ↦ rw is (one_if_most (is_live later b))
  | inr not ↦
      let none : recent_of now b.moments.items ≡ [] = no_length (recent_of now b.moments.items) not in
      let still : recent_of later b.moments.items ≡ [] = sym (recent_twice now later b.moments.items le) ∙ ap (λ (ms : List ℕ). recent_of later ms) none in
      let fails : one_if (is_live later b) ≡ 0 = ap (λ (ms : List ℕ). one_if (nat_lt 0 (length ms))) still in
      omega arith
]

-- a moment at the end of the bucket of an address
module _ (now : ℕ) (place : ℕ) (bs : List Bucket) (b d : Bucket) (held : IsHeld now bs) (lt : place < length bs) (source : b.source ≡ (get_or bs place d).source) (items : b.moments.items ≡ (get_or bs place d).moments.items ++ now ∷ []) (places : b.moments.capacity ≡ (get_or bs place d).moments.capacity) where
  added_rises : IsBucket now (get_or bs place d) → IsNonDecreasing ((get_or bs place d).moments.items ++ now ∷ [])
  added_rises is = IsNonDecreasingBy-push (λ (x : ℕ). x) (get_or bs place d).moments.items now is.order (λ e some. is.past (length (get_or bs place d).moments.items - 1) e (omega arith))

  pub added_held : length (get_or bs place d).moments.items < (get_or bs place d).moments.capacity → IsHeld now (set bs place b)
  added_held room =
      let old : Bucket = get_or bs place d in
      let is : IsBucket now old = All-get_or (IsBucket now) bs place d lt held.each in
      let size : length b.moments.items ≡ length old.moments.items + 1 = ap (λ (ms : List ℕ). length ms) items ∙ length-append old.moments.items (now ∷ []) in
      let more : IsBucket now b = record {
        order = subst IsNonDecreasing (sym items) (added_rises is);
        past = subst (All (λ m. m ≤ now)) (sym items) (All-push (λ m. m ≤ now) old.moments.items now is.past (omega arith));
        places = omega arith;
      } in
      record {
        order = ascends_set bs place b d lt held.order source;
        each = All-set (IsBucket now) bs place b more held.each;
      }

  pub added_live : (later : ℕ) → live_count later (set bs place b) + cond (ends_recent later (last_item (get_or bs place d).moments.items)) 1 0 ≡ live_count later bs + cond (is_recent later now) 1 0
  added_live later =
      let old : Bucket = get_or bs place d in
      let is : IsBucket now old = All-get_or (IsBucket now) bs place d lt held.each in
      let before : one_if (is_live later old) ≡ one_if (ends_recent later (last_item old.moments.items)) = ap one_if (sym (ends_tell later old.moments.items is.order)) in
      let after : one_if (is_live later b) ≡ one_if (is_recent later now) =
      ap (λ (ms : List ℕ). one_if (nat_lt 0 (length (recent_of later ms)))) items
      ∙ ap one_if (sym (ends_tell later (old.moments.items ++ now ∷ []) (added_rises is)) ∙ ap (ends_recent later) (last_push old.moments.items now)) in
      omega (arith, sum_by-set (λ c. cond (is_live later c) 1 0) bs place b d lt)

-- a bucket whose last moment is this one is live until it no longer counts
pub live_drops : (now : ℕ) (place : ℕ) (bs : List Bucket) (d : Bucket) (m : ℕ) → IsHeld now bs → place < length bs → last_item (get_or bs place d).moments.items ≡ Some m → live_count (m + 1000) bs < live_count (m + 999) bs
live_drops now place bs d m held lt last =
    let old : Bucket = get_or bs place d in
    let front : List Bucket = take place bs in
    let back : List Bucket = drop (place + 1) bs in
    let is : IsBucket now old = All-get_or (IsBucket now) bs place d lt held.each in
    let over : is_recent (m + 1000) m ≡ false = grind (arith, nat_tests) in
    let counts : is_recent (m + 999) m ≡ true = grind (arith, nat_tests) in
    let after : one_if (is_live (m + 1000) old) ≡ 0 = ap one_if (sym (ends_tell (m + 1000) old.moments.items is.order) ∙ ap (ends_recent (m + 1000)) last ∙ over) in
    let before : one_if (is_live (m + 999) old) ≡ 1 = ap one_if (sym (ends_tell (m + 999) old.moments.items is.order) ∙ ap (ends_recent (m + 999)) last ∙ counts) in
    let fewer : (cs : List Bucket) → live_count (m + 1000) cs ≤ live_count (m + 999) cs =
    λ cs. sum_by-le-sum_by (λ c. cond (is_live (m + 1000) c) 1 0) (λ c. cond (is_live (m + 999) c) 1 0) cs (λ c. live_falls (m + 999) (m + 1000) c (omega arith)) in
    omega (arith, ap (live_count (m + 1000)) (parts_of bs place d lt), ap (live_count (m + 999)) (parts_of bs place d lt), sum_round (λ c. cond (is_live (m + 1000) c) 1 0) front old back, sum_round (λ c. cond (is_live (m + 999) c) 1 0) front old back, fewer front, fewer back)

-- a bucket without the moments that no longer count, and one with other places
pub forgot : (now : ℕ) (a b : Bucket) → IsBucket now a → b.moments.items ≡ recent_of now a.moments.items → b.moments.capacity ≡ a.moments.capacity → IsBucket now b
forgot now a b is items places = record {
  order = subst IsNonDecreasing (sym items) (IsNonDecreasingBy-filter (λ (x : ℕ). x) (is_recent now) a.moments.items is.order);
  past = subst (All (λ m. m ≤ now)) (sym items) (All-filter (is_recent now) (λ m. m ≤ now) a.moments.items is.past);
  places = omega (arith, ap (λ (ms : List ℕ). length ms) items, filter_fewer (is_recent now) a.moments.items, is.places);
}

pub forgot_same : (now later : ℕ) (a b : Bucket) → now ≤ later → b.moments.items ≡ recent_of now a.moments.items → recent_of later b.moments.items ≡ recent_of later a.moments.items
forgot_same now later a b le items = ap (λ (ms : List ℕ). recent_of later ms) items ∙ recent_twice now later a.moments.items le

pub forgot_more : (now : ℕ) (a b : Bucket) → b.moments.items ≡ recent_of now a.moments.items → b.moments.capacity ≡ a.moments.capacity → a.moments.capacity + length b.moments.items ≤ b.moments.capacity + length a.moments.items
forgot_more now a b items places = omega (arith, ap (λ (ms : List ℕ). length ms) items, filter_fewer (is_recent now) a.moments.items)

pub replaced : (now : ℕ) (a b : Bucket) → IsBucket now a → b.moments.items ≡ a.moments.items → length b.moments.items ≤ b.moments.capacity → IsBucket now b
replaced now a b is items places = record {
  order = subst IsNonDecreasing (sym items) is.order;
  past = subst (All (λ m. m ≤ now)) (sym items) is.past;
  places = places;
}

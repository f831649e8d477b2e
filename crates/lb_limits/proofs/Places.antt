-- The place of a masked address among buckets in order.
use Rattle.std.proofs.Common.{◌≡◌, true, false, ℕ, ◌+◌, ◌-◌, ◌<◌, ◌≤◌, List, [], ◌∷◌, ◌++◌, length, get_or, set, take, drop, inl, inr, refl, sym, ◌∙◌, ap, arith, subst, add-one}
use Rattle.std.specs.List.{sum_by, All}
use Rattle.std.specs.List.Sorted.{IsPartitionedBy, IsPartitionPoint}
use Rattle.std.specs.Ordering.{is_lt}
use Rattle.std.proofs.lemmas.Bool.{cases_Bool, cases_lt}
use Rattle.std.proofs.lemmas.List.{take-append-drop, drop_more, drop_all, set_split}
use Rattle.std.proofs.lemmas.List.Elements.{All-nil, All-cons, All-head}
use Rattle.std.proofs.lemmas.List.Sums.{sum_by-append}
use Rattle.lb_wire.specs.declared.addr.Addr.{Addr}
use Rattle.lb_limits.specs.declared.bucket.Bucket.{Bucket}
use Rattle.lb_limits.specs.Order.{same_addr, cmp_addr}
use Rattle.lb_limits.specs.Moments.{recent_of}
use Rattle.lb_limits.specs.Buckets.{Ascends, IsPlace, is_below, begins, free_in, free_of, window_in, window_count}
use Rattle.lb_limits.proofs.Addresses.{less_differs, less_differs_back, less_trans, behind}
use Rattle.lb_limits.proofs.PutKey.{same_decides}
use Rattle.lb_limits.proofs.Recent.{all_taken, all_dropped}
use Rattle.lb_limits.proofs.Pairs.{pairs_head, pairs_back, pairs_cross, pairs_remove, pairs_insert}
use Rattle.lb_limits.proofs.Sums.{sum_none, sum_round}

-- those below an address stand before the others
pub parted_by : (key : Addr) (bs : List Bucket) → Ascends bs → IsPartitionedBy (is_below key) bs
parted_by key bs ascends = λ i j d le within below. elim (cases_lt i j) [
  | inl lt ↦ less_trans (get_or bs i d).source (get_or bs j d).source key (ascends i j d lt within) below
  | inr ge ↦
      let same : i ≡ j = omega arith in
      rw same below
]

pub place_is : (key : Addr) (bs : List Bucket) (place : ℕ) → place ≤ length bs → IsPartitionPoint (λ b. is_below key b ≡ true) (λ b. is_below key b ≡ false) bs place → IsPlace key place bs
place_is key bs place within point = record {
  within = within;
  below = all_taken (λ b. is_below key b ≡ true) bs place point.0;
  above = all_dropped (λ b. is_below key b ≡ false) bs place point.1;
}

-- an address's bucket, those before it and those after it
pub record Stands (key : Addr) (front : List Bucket) (b : Bucket) (back : List Bucket) : Type 0 where
  pub same : key ≡ b.source
  pub below : All (λ c. is_lt (cmp_addr c.source key) ≡ true) front
  pub above : All (λ c. is_lt (cmp_addr key c.source) ≡ true) back

pub parts_of : (bs : List Bucket) (place : ℕ) (d : Bucket) → place < length bs → bs ≡ take place bs ++ get_or bs place d ∷ drop (place + 1) bs
parts_of bs place d lt = sym (take-append-drop place bs) ∙ ap (λ (cs : List Bucket). take place bs ++ cs) (drop_more bs place d lt)

pub set_parts : (bs : List Bucket) (place : ℕ) (b : Bucket) → place < length bs → set bs place b ≡ take place bs ++ b ∷ drop (place + 1) bs
set_parts bs place b lt = set_split bs place b lt ∙ ap (λ (n : ℕ). take place bs ++ b ∷ drop n bs) (sym (add-one place))

ascends_parts : (bs front : List Bucket) (b : Bucket) (back : List Bucket) → bs ≡ front ++ b ∷ back → Ascends bs → Ascends (front ++ b ∷ back)
ascends_parts bs front b back is ascends = subst Ascends is ascends

pub stands_at : (key : Addr) (bs : List Bucket) (place : ℕ) (d : Bucket) → Ascends bs → IsPlace key place bs → place < length bs → begins key (drop place bs) ≡ true → Stands key (take place bs) (get_or bs place d) (drop (place + 1) bs)
stands_at key bs place d ascends at lt found =
    let b : Bucket = get_or bs place d in
    let back : List Bucket = drop (place + 1) bs in
    let own : same_addr key b.source ≡ true = ap (begins key) (sym (drop_more bs place d lt)) ∙ found in
    let is : key ≡ b.source = (same_decides key b.source).0 own in
    let pairs : Ascends (take place bs ++ b ∷ back) = ascends_parts bs (take place bs) b back (parts_of bs place d lt) ascends in
    let rest : All (λ c. is_below c.source b ≡ true) back = pairs_head (λ a c. is_below c.source a ≡ true) b back (pairs_back (λ a c. is_below c.source a ≡ true) (take place bs) (b ∷ back) pairs) in
    record {
      same = is;
      below = at.below;
      above = λ k e lt. subst (λ (a : Addr). is_lt (cmp_addr a (get_or back k e).source) ≡ true) (sym is) (rest k e lt);
    }

-- where an address has no bucket, those from its place on are after it
pub stands_before : (key : Addr) (bs : List Bucket) → Ascends bs → All (λ b. is_below key b ≡ false) bs → begins key bs ≡ false → All (λ b. is_lt (cmp_addr key b.source) ≡ true) bs
stands_before key [] ascends above new = All-nil (λ (b : Bucket). is_lt (cmp_addr key b.source) ≡ true)
stands_before key (b ∷ bs) ascends above new =
    let here : is_lt (cmp_addr key b.source) ≡ true = behind b.source key (All-head (λ c. is_below key c ≡ false) b bs above) new in
    let rest : All (λ c. is_below c.source b ≡ true) bs = pairs_head (λ a c. is_below c.source a ≡ true) b bs ascends in
    All-cons (λ (c : Bucket). is_lt (cmp_addr key c.source) ≡ true) b bs here (λ k d lt. less_trans key b.source (get_or bs k d).source here (rest k d lt))

pub ascends_drop : (bs : List Bucket) (place : ℕ) → Ascends bs → Ascends (drop place bs)
ascends_drop bs place ascends = pairs_back (λ a c. is_below c.source a ≡ true) (take place bs) (drop place bs) (subst Ascends (sym (take-append-drop place bs)) ascends)

module _ (f : Bucket → ℕ) (key : Addr) (nothing : (b : Bucket) → same_addr key b.source ≡ false → f b ≡ 0) where
  below_none : (bs : List Bucket) → All (λ c. is_lt (cmp_addr c.source key) ≡ true) bs → sum_by f bs ≡ 0
  below_none bs below = sum_none f bs (λ k d lt. nothing (get_or bs k d) (less_differs_back (get_or bs k d).source key (below k d lt)))

  above_none : (bs : List Bucket) → All (λ c. is_lt (cmp_addr key c.source) ≡ true) bs → sum_by f bs ≡ 0
  above_none bs above = sum_none f bs (λ k d lt. nothing (get_or bs k d) (less_differs key (get_or bs k d).source (above k d lt)))

  -- what only an address's bucket has, all have together
  pub sum_found : (bs : List Bucket) (place : ℕ) (d : Bucket) → Ascends bs → IsPlace key place bs → place < length bs → begins key (drop place bs) ≡ true → sum_by f bs ≡ f (get_or bs place d)
  sum_found bs place d ascends at lt found =
      let stands : Stands key (take place bs) (get_or bs place d) (drop (place + 1) bs) = stands_at key bs place d ascends at lt found in
      omega (arith, ap (sum_by f) (parts_of bs place d lt), sum_round f (take place bs) (get_or bs place d) (drop (place + 1) bs), below_none (take place bs) stands.below, above_none (drop (place + 1) bs) stands.above)

  pub sum_missing : (bs : List Bucket) (place : ℕ) → Ascends bs → IsPlace key place bs → begins key (drop place bs) ≡ false → sum_by f bs ≡ 0
  sum_missing bs place ascends at new =
      let back : All (λ c. is_lt (cmp_addr key c.source) ≡ true) (drop place bs) = stands_before key (drop place bs) (ascends_drop bs place ascends) at.above new in
      omega (arith, ap (sum_by f) (take-append-drop place bs), sum_by-append f (take place bs) (drop place bs), below_none (take place bs) at.below, above_none (drop place bs) back)

window_nothing : (key : Addr) (now : ℕ) (b : Bucket) → same_addr key b.source ≡ false → window_in key now b ≡ 0
window_nothing key now b other = rw other refl

-- an address whose bucket is not there has no window
pub window_none : (key : Addr) (now : ℕ) (bs : List Bucket) → All (λ c. same_addr key c.source ≡ false) bs → window_count key now bs ≡ 0
window_none key now bs other = sum_none (window_in key now) bs (λ k d lt. window_nothing key now (get_or bs k d) (other k d lt))

free_nothing : (key : Addr) (b : Bucket) → same_addr key b.source ≡ false → free_in key b ≡ 0
free_nothing key b other = rw other refl

window_found : (key : Addr) (now : ℕ) (bs : List Bucket) (place : ℕ) (d : Bucket) → Ascends bs → IsPlace key place bs → place < length bs → begins key (drop place bs) ≡ true → window_count key now bs ≡ window_in key now (get_or bs place d)
window_found key now bs place d ascends at lt found = sum_found (window_in key now) key (window_nothing key now) bs place d ascends at lt found

pub window_missing : (key : Addr) (now : ℕ) (bs : List Bucket) (place : ℕ) → Ascends bs → IsPlace key place bs → begins key (drop place bs) ≡ false → window_count key now bs ≡ 0
window_missing key now bs place ascends at new = sum_missing (window_in key now) key (window_nothing key now) bs place ascends at new

pub within_found : (key : Addr) (bs : List Bucket) (place : ℕ) → begins key (drop place bs) ≡ true → place < length bs
within_found key bs place found = elim (cases_lt place (length bs)) [
  | inl lt ↦ lt
  | inr past ↦
      let none : false ≡ true = ap (begins key) (sym (drop_all place bs past)) ∙ found in
      absurd (cc)
]

-- an address that there is room for has a bucket, and there the room is
pub room_found : (key : Addr) (bs : List Bucket) (place : ℕ) → Ascends bs → IsPlace key place bs → 0 < free_of key bs → begins key (drop place bs) ≡ true
room_found key bs place ascends at room = elim (cases_Bool (begins key (drop place bs))) [
  | inl found ↦ found
  | inr new ↦ absurd (omega (arith, sum_missing (free_in key) key (free_nothing key) bs place ascends at new))
]

free_most : (key : Addr) (b : Bucket) → 0 < free_in key b → length b.moments.items < b.moments.capacity
free_most key b free = elim (cases_Bool (same_addr key b.source)) [
  | inl own ↦
      let some : 0 < b.moments.capacity - length b.moments.items = rw own at free in
      omega arith
  | inr other ↦
      let none : 0 < 0 = rw other at free in
      absurd (omega arith)
]

pub room_at : (key : Addr) (bs : List Bucket) (place : ℕ) (d : Bucket) → Ascends bs → IsPlace key place bs → 0 < free_of key bs → length (get_or bs place d).moments.items < (get_or bs place d).moments.capacity
room_at key bs place d ascends at room =
    let found : begins key (drop place bs) ≡ true = room_found key bs place ascends at room in
    let lt : place < length bs = within_found key bs place found in
    free_most key (get_or bs place d) (subst (λ (n : ℕ). 0 < n) (sum_found (free_in key) key (free_nothing key) bs place d ascends at lt found) room)

-- another bucket of the same address in the place of one
pub ascends_swap : (front : List Bucket) (b c : Bucket) (back : List Bucket) → Ascends (front ++ b ∷ back) → c.source ≡ b.source → Ascends (front ++ c ∷ back)
ascends_swap front b c back ascends same =
    let below : All (λ a. is_below b.source a ≡ true) front =
    λ k d lt. All-head (λ e. is_below e.source (get_or front k d) ≡ true) b back (pairs_cross (λ a e. is_below e.source a ≡ true) front (b ∷ back) ascends k d lt) in
    let above : All (λ e. is_below e.source b ≡ true) back = pairs_head (λ a e. is_below e.source a ≡ true) b back (pairs_back (λ a e. is_below e.source a ≡ true) front (b ∷ back) ascends) in
    pairs_insert (λ a e. is_below e.source a ≡ true) front c back (pairs_remove (λ a e. is_below e.source a ≡ true) front b back ascends)
    (λ k d lt. subst (λ (s : Addr). is_below s (get_or front k d) ≡ true) (sym same) (below k d lt))
    (λ k d lt. subst (λ (s : Addr). is_lt (cmp_addr s (get_or back k d).source) ≡ true) (sym same) (above k d lt))

pub ascends_set : (bs : List Bucket) (place : ℕ) (c d : Bucket) → place < length bs → Ascends bs → c.source ≡ (get_or bs place d).source → Ascends (set bs place c)
ascends_set bs place c d lt ascends same =
    subst Ascends (sym (set_parts bs place c lt))
    (ascends_swap (take place bs) (get_or bs place d) c (drop (place + 1) bs) (ascends_parts bs (take place bs) (get_or bs place d) (drop (place + 1) bs) (parts_of bs place d lt) ascends) same)

pub room_within : (key : Addr) (bs : List Bucket) (place : ℕ) → Ascends bs → IsPlace key place bs → 0 < free_of key bs → place < length bs
room_within key bs place ascends at room = within_found key bs place (room_found key bs place ascends at room)

-- the window of an address is that of its bucket
pub window_there : (key : Addr) (now : ℕ) (bs : List Bucket) (place : ℕ) (d : Bucket) → Ascends bs → IsPlace key place bs → place < length bs → begins key (drop place bs) ≡ true → window_count key now bs ≡ length (recent_of now (get_or bs place d).moments.items)
window_there key now bs place d ascends at lt found =
    let own : same_addr key (get_or bs place d).source ≡ true = ap (begins key) (sym (drop_more bs place d lt)) ∙ found in
    let here : window_in key now (get_or bs place d) ≡ length (recent_of now (get_or bs place d).moments.items) = rw own refl in
    window_found key now bs place d ascends at lt found ∙ here

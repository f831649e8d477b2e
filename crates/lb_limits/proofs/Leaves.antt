-- Buckets that are given up, and what is left.
use Rattle.std.proofs.Common.{◌≡◌, Bool, true, false, ◌||◌, ℕ, ◌+◌, ◌<◌, ◌≤◌, List, [], ◌∷◌, ◌++◌, length, get_or, map, take, drop, cond, inl, inr, refl, sym, ◌∙◌, ap, arith, subst, nat_lt, add-one, length-append}
use Rattle.std.specs.List.{filter, remove, list_any, count_by, All}
use Rattle.std.proofs.lemmas.Bool.{cases_Bool}
use Rattle.std.proofs.lemmas.List.Concat.{flat_map-append}
use Rattle.std.proofs.lemmas.List.Elements.{All-append, All-head, All-tail, All-filter, Contains-get_or}
use Rattle.std.proofs.lemmas.List.Sums.{sum_by-cons, sum_by-append, length-filter}
use Rattle.circular_buffer.specs.Buffer.{last_item}
use Rattle.lb_wire.specs.declared.addr.Addr.{Addr}
use Rattle.lb_limits.specs.declared.pass.Pass.{Pass}
use Rattle.lb_limits.specs.declared.bucket.Bucket.{Bucket}
use Rattle.lb_limits.specs.Order.{same_addr}
use Rattle.lb_limits.specs.Moments.{ends_recent}
use Rattle.lb_limits.specs.Window.{max_live}
use Rattle.lb_limits.specs.Buckets.{Ascends, IsBucket, IsHeld, IsIdleAt, IsRated, Keeps, Leaves, is_below, pass_of, bucket_passes, held_at, is_live, live_count, free_in, free_of, stays}
use Rattle.lb_limits.proofs.Addresses.{less_differs_back}
use Rattle.lb_limits.proofs.PutKey.{same_decides}
use Rattle.lb_limits.proofs.Recent.{filter_fewer, ends_tell}
use Rattle.lb_limits.proofs.Pairs.{all_front, all_back, pairs_head, pairs_tail, pairs_remove}
use Rattle.lb_limits.proofs.Sums.{sum_none, sum_round}
use Rattle.lb_limits.proofs.Places.{parts_of}
use Rattle.lb_limits.proofs.Keeps.{gone, reserved_stays, swept, swept_rooms}

abbrev one_if : Bool → ℕ
one_if b = cond b 1 0

-- nothing is given up
pub left_same : (reserved : List Addr) (moment : ℕ) (bs : List Bucket) → IsHeld moment bs → Leaves reserved moment bs bs
left_same reserved moment bs held = record {
  keeps = record { held = held; passes = λ now le. refl; live = λ now le. refl };
  fewer = omega arith;
  rated = λ qps all. all;
  rooms = λ rooms. rooms;
}

-- first some are given up, and then others
pub left_then : (reserved : List Addr) (moment : ℕ) (bs cs ds : List Bucket) → Leaves reserved moment bs cs → Leaves reserved moment cs ds → Leaves reserved moment bs ds
left_then reserved moment bs cs ds first second = record {
  keeps = record {
    held = second.keeps.held;
    passes = λ now le. second.keeps.passes now le ∙ first.keeps.passes now le;
    live = λ now le. second.keeps.live now le ∙ first.keeps.live now le;
  };
  fewer = omega (arith, first.fewer, second.fewer);
  rated = λ qps all. second.rated qps (first.rated qps all);
  rooms = λ rooms. second.rooms (first.rooms rooms);
}

-- a sweep
pub left_swept : (reserved : List Addr) (moment : ℕ) (bs : List Bucket) → IsHeld moment bs → Leaves reserved moment bs (filter (stays reserved moment) bs)
left_swept reserved moment bs held = record {
  keeps = swept reserved moment bs held;
  fewer = filter_fewer (stays reserved moment) bs;
  rated = λ qps all. All-filter (stays reserved moment) (IsRated qps moment) bs all;
  rooms = swept_rooms reserved moment bs held;
}

all_without : (P : Bucket → Type 0) (front : List Bucket) (b : Bucket) (back : List Bucket) → All P (front ++ b ∷ back) → All P (front ++ back)
all_without P front b back all = All-append P front back (all_front P front (b ∷ back) all) (All-tail P b back (all_back P front (b ∷ back) all))

-- one bucket that a sweep gives up
module _ (reserved : List Addr) (moment : ℕ) (front : List Bucket) (b : Bucket) (back : List Bucket) (held : IsHeld moment (front ++ b ∷ back)) (idle : stays reserved moment b ≡ false) where
  here : IsBucket moment b
  here = All-head (IsBucket moment) b back (all_back (IsBucket moment) front (b ∷ back) held.each)

  one_keeps : Keeps moment (front ++ b ∷ back) (front ++ back)
  one_keeps = record {
    held = record {
      order = pairs_remove (λ a c. is_below c.source a ≡ true) front b back held.order;
      each = all_without (IsBucket moment) front b back held.each;
    };
    passes = λ now le.
        let none : bucket_passes now b ≡ [] = ap (λ (ms : List ℕ). map (pass_of b.source) ms) (gone reserved moment now b le here idle) in
        flat_map-append (bucket_passes now) front back
        ∙ ap (λ (ps : List Pass). held_at now front ++ (ps ++ held_at now back)) (sym none)
        ∙ sym (flat_map-append (bucket_passes now) front (b ∷ back));
    live = λ now le.
        let none : one_if (is_live now b) ≡ 0 = ap (λ (ms : List ℕ). one_if (nat_lt 0 (length ms))) (gone reserved moment now b le here idle) in
        omega (arith, none, sum_by-append (λ c. cond (is_live now c) 1 0) front back, sum_round (λ c. cond (is_live now c) 1 0) front b back);
  }

  one_rooms : All (λ key. 0 < free_of key (front ++ b ∷ back)) reserved → All (λ key. 0 < free_of key (front ++ back)) reserved
  one_rooms rooms = λ k d lt.
      let key : Addr = get_or reserved k d in
      omega (arith, rooms k d lt, reserved_stays reserved moment key b (Contains-get_or reserved k d lt) idle, sum_by-append (free_in key) front back, sum_round (free_in key) front b back)

  pub left_one : Leaves reserved moment (front ++ b ∷ back) (front ++ back)
  left_one = record {
    keeps = one_keeps;
    fewer = omega (arith, length-append front back, length-append front (b ∷ back));
    rated = λ qps all. all_without (IsRated qps moment) front b back all;
    rooms = one_rooms;
  }

pub left_removed : (reserved : List Addr) (moment place : ℕ) (bs : List Bucket) (d : Bucket) → IsHeld moment bs → IsIdleAt reserved moment place bs → Leaves reserved moment bs (remove bs place)
left_removed reserved moment place bs d held is =
    let parts : bs ≡ take place bs ++ get_or bs place d ∷ drop (place + 1) bs = parts_of bs place d is.within in
    let left : Leaves reserved moment (take place bs ++ get_or bs place d ∷ drop (place + 1) bs) (take place bs ++ drop (place + 1) bs) =
    left_one reserved moment (take place bs) (get_or bs place d) (drop (place + 1) bs) (subst (IsHeld moment) parts held) (is.idle d) in
    subst (λ (n : ℕ). Leaves reserved moment bs (take place bs ++ drop n bs)) (add-one place)
    (subst (λ (cs : List Bucket). Leaves reserved moment cs (take place bs ++ drop (place + 1) bs)) (sym parts) left)

-- how many a sweep keeps
count_or : (P : Bucket → Type 0) (p q r : Bucket → Bool) → ((b : Bucket) → P b → one_if (p b) ≤ one_if (q b) + one_if (r b)) → (bs : List Bucket) → All P bs → count_by p bs ≤ count_by q bs + count_by r bs
count_or P p q r says [] all = omega arith
count_or P p q r says (b ∷ bs) all =
    omega (
      arith,
      says b (All-head P b bs all),
      count_or P p q r says bs (All-tail P b bs all),
      sum_by-cons (λ c. cond (p c) 1 0) b bs,
      sum_by-cons (λ c. cond (q c) 1 0) b bs,
      sum_by-cons (λ c. cond (r c) 1 0) b bs,
    )

either_one : (s t : Bool) → one_if (s || t) ≤ one_if s + one_if t
either_one true t = omega arith
either_one false t = omega arith

-- an address has one bucket at most
own_few : (key : Addr) (bs : List Bucket) → Ascends bs → count_by (λ b. same_addr b.source key) bs ≤ 1
own_few key [] ascends = omega arith
own_few key (b ∷ bs) ascends =
    let count : count_by (λ c. same_addr c.source key) (b ∷ bs) ≡ one_if (same_addr b.source key) + count_by (λ c. same_addr c.source key) bs = sum_by-cons (λ c. cond (same_addr c.source key) 1 0) b bs in
    let rest : count_by (λ c. same_addr c.source key) bs ≤ 1 = own_few key bs (pairs_tail (λ a c. is_below c.source a ≡ true) b bs ascends) in
    elim (cases_Bool (same_addr b.source key)) [
      | inr other ↦ omega (arith, count, rest, ap one_if other)
      | inl own ↦
          let is : b.source ≡ key = (same_decides b.source key).0 own in
          let others : All (λ c. is_below c.source b ≡ true) bs = pairs_head (λ a c. is_below c.source a ≡ true) b bs ascends in
          let none : count_by (λ c. same_addr c.source key) bs ≡ 0 = sum_none (λ c. cond (same_addr c.source key) 1 0) bs
          (λ k d lt. ap one_if (subst (λ (s : Addr). same_addr (get_or bs k d).source s ≡ false) is (less_differs_back b.source (get_or bs k d).source (others k d lt)))) in
          omega (arith, count, none, ap one_if own)
    ]

reserved_few : (reserved : List Addr) (bs : List Bucket) → Ascends bs → count_by (λ b. list_any (same_addr b.source) reserved) bs ≤ length reserved
reserved_few [] bs ascends = omega (arith, sum_none (λ (b : Bucket). cond (list_any (same_addr b.source) []) 1 0) bs (λ k d lt. refl))
reserved_few (key ∷ keys) bs ascends =
    omega (
      arith,
      own_few key bs ascends,
      reserved_few keys bs ascends,
      count_or (λ b. ℕ) (λ b. list_any (same_addr b.source) (key ∷ keys)) (λ b. same_addr b.source key) (λ b. list_any (same_addr b.source) keys)
          (λ b n. either_one (same_addr b.source key) (list_any (same_addr b.source) keys)) bs (λ k d lt. 0),
    )

pub swept_few : (reserved : List Addr) (moment : ℕ) (bs : List Bucket) → IsHeld moment bs → live_count moment bs ≤ max_live → length (filter (stays reserved moment) bs) ≤ max_live + length reserved
swept_few reserved moment bs held few =
    omega (
      arith,
      few,
      length-filter (stays reserved moment) bs,
      reserved_few reserved bs held.order,
      count_or (IsBucket moment) (stays reserved moment) (is_live moment) (λ b. list_any (same_addr b.source) reserved)
          (λ b is. subst (λ t. one_if (stays reserved moment b) ≤ one_if t + one_if (list_any (same_addr b.source) reserved)) (ends_tell moment b.moments.items is.order)
          (either_one (ends_recent moment (last_item b.moments.items)) (list_any (same_addr b.source) reserved))) bs held.each,
    )

-- What a limiter keeps true of its fields, from call to call.
use Rattle.std.proofs.Common.{◌≡◌, true, false, ℕ, ◌+◌, ◌*◌, ◌^◌, ◌<◌, ◌≤◌, List, [], ◌∷◌, length, get_or, inl, inr, sym, ◌∙◌, ap, arith, subst, cond, Contains, length-append, mul-le-mul}
use Rattle.std.specs.List.{All, list_any}
use Rattle.std.specs.Option.{IfSome}
use Rattle.std.specs.declared.option.Option.{Option}
use Rattle.std.specs.declared.option.Option.TheVariants.{None, Some}
use Rattle.std.proofs.lemmas.Bool.{cases_Bool}
use Rattle.std.proofs.lemmas.Bool.Decides.{nat_tests}
use Rattle.std.proofs.lemmas.List.Elements.{All-nil, All-push, All-contains}
use Rattle.lb_wire.specs.declared.addr.Addr.{Addr}
use Rattle.lb_masks.specs.Mask.{masked_of}
use Rattle.lb_limits.specs.declared.pass.Pass.{Pass}
use Rattle.lb_limits.specs.declared.bucket.Bucket.{Bucket}
use Rattle.lb_limits.specs.Order.{same_addr}
use Rattle.lb_limits.specs.Window.{Limits, max_live, recent_passes, put_pass, put_key, reserved_at, passed_at}
use Rattle.lb_limits.specs.Moments.{is_recent, ends_recent}
use Rattle.lb_limits.specs.Buckets.{IsRated, Keeps, Leaves, free_of, held_at, live_count, many, pass_of}
use Rattle.lb_limits.specs.Limiter.{IsLatest, IsRoom, IsLimiter}
use Rattle.lb_limits.specs.Ticks.{HasRoom, IsTally, Rises, address_count, live_at, moments_of}
use Rattle.lb_limits.specs.declared.ticks.LastPasses.{LastPasses}
use Rattle.lb_limits.specs.declared.ticks.Ticks.{Ticks}
use Rattle.lb_limits.proofs.Keeps.{held_later}
use Rattle.lb_limits.proofs.Rated.{held_few, rated_later}
use Rattle.lb_limits.proofs.Tallies.{live_most}
use Rattle.lb_limits.proofs.Held.{recent_held}

abbrev pub view_of : ℕ → ℕ → ℕ → ℕ → List Pass → List Addr → Limits
view_of qps v4 v6 moment passes reserved = record { qps = qps; v4 = v4; v6 = v6; moment = moment; passes = passes; reserved = reserved }

latest_later : (m now : ℕ) (ticks : Ticks) (bs : List Bucket) → m ≤ now → IsLatest m ticks bs → IsLatest now ticks bs
latest_later m now ticks bs le is = record {
  tally = is.tally;
  past = λ k d lt. omega (arith, is.past k d lt);
  live = λ later after. is.live later (omega arith);
}

-- edits of buckets that change nothing that counts
pub latest_kept : (m : ℕ) (ticks : Ticks) (bs cs : List Bucket) → IsLatest m ticks bs → Keeps m bs cs → IsLatest m ticks cs
latest_kept m ticks bs cs is keeps = record { tally = is.tally; past = is.past; live = λ now le. is.live now le ∙ sym (keeps.live now le) }

pub keeps_then : (m : ℕ) (bs cs ds : List Bucket) → Keeps m bs cs → Keeps m cs ds → Keeps m bs ds
keeps_then m bs cs ds first second = record {
  held = second.held;
  passes = λ now le. second.passes now le ∙ first.passes now le;
  live = λ now le. second.live now le ∙ first.live now le;
}

-- no more addresses are live than may be
pub live_few : (m now : ℕ) (ticks : Ticks) (bs : List Bucket) → IsLatest m ticks bs → m ≤ now → live_count now bs ≤ max_live
live_few m now ticks bs is le = omega (arith, is.live now le, live_most now ticks.list.items, is.tally.total, is.tally.crowd)

-- and no more passes count than so many at the rate
pub passes_few : (qps v4 v6 m : ℕ) (bs : List Bucket) (ticks : Ticks) (reserved : List Addr) → IsLimiter qps v4 v6 m bs ticks reserved → length (held_at m bs) < 2 ^ 63
passes_few qps v4 v6 m bs ticks reserved is =
    let live : live_count m bs ≤ 4096 = live_few m m ticks bs is.ends (omega arith) in
    let most : qps * live_count m bs ≤ 1000 * 4096 = mul-le-mul is.rate live in
    omega (arith, held_few qps m bs is.rated, most)

put_all : (P : Addr → Type 0) (key : Addr) (reserved : List Addr) → All P reserved → P key → All P (put_key key reserved)
put_all P key reserved all here = elim (cases_Bool (list_any (same_addr key) reserved)) [
  | inl there ↦ rw there all
  | inr new ↦ rw new (All-push P reserved key all here)
]

put_longer : (key : Addr) (reserved : List Addr) → length reserved ≤ length (put_key key reserved)
put_longer key reserved = elim (cases_Bool (list_any (same_addr key) reserved)) [
  | inl there ↦ rw there (omega arith)
  | inr new ↦ rw new (omega (arith, length-append reserved (key ∷ [])))
]

-- buckets are given up
pub left_limiter : (qps v4 v6 m : ℕ) (bs cs : List Bucket) (ticks : Ticks) (reserved : List Addr) → IsLimiter qps v4 v6 m bs ticks reserved → Leaves reserved m bs cs → IsLimiter qps v4 v6 m cs ticks reserved
left_limiter qps v4 v6 m bs cs ticks reserved is left = record {
  rate = is.rate;
  ipv4 = is.ipv4;
  ipv6 = is.ipv6;
  passes = left.keeps.held;
  rated = left.rated qps is.rated;
  few = omega (arith, is.few, left.fewer);
  ends = latest_kept m ticks bs cs is.ends left.keeps;
  room = record { tick = is.room.tick; moments = left.rooms is.room.moments };
}

module _ (qps v4 v6 m : ℕ) (bs cs : List Bucket) (ticks wider : Ticks) (reserved : List Addr) (is : IsLimiter qps v4 v6 m bs ticks reserved) (few : length bs ≤ many + length reserved) (same : wider.list.items ≡ ticks.list.items) (total : wider.total ≡ ticks.total) (more : HasRoom ticks → HasRoom wider) where
  -- ticks with more room
  wider_latest : IsLatest m wider bs
  wider_latest = record {
    tally = record {
      order = subst (λ (ts : List LastPasses). Rises (moments_of ts)) (sym same) is.ends.tally.order;
      few = omega (arith, ap (λ (ts : List LastPasses). length ts) same, is.ends.tally.few);
      total = total ∙ is.ends.tally.total ∙ sym (ap address_count same);
      crowd = omega (arith, total, is.ends.tally.crowd);
    };
    past = subst (λ (ts : List LastPasses). All (λ x. x ≤ m) (moments_of ts)) (sym same) is.ends.past;
    live = λ now le. ap (live_at now) same ∙ is.ends.live now le;
  }

  -- a reservation that is refused before an address has room
  pub early_limiter : IsLimiter qps v4 v6 m bs wider reserved
  early_limiter = record {
    rate = is.rate;
    ipv4 = is.ipv4;
    ipv6 = is.ipv6;
    passes = is.passes;
    rated = is.rated;
    few = is.few;
    ends = wider_latest;
    room = record { tick = λ some. more (is.room.tick some); moments = is.room.moments };
  }

  module _ (keeps : Keeps m bs cs) (rated : All (IsRated qps m) cs) (longer : length cs ≤ length bs + 1) (rooms : (key : Addr) → 0 < free_of key bs → 0 < free_of key cs) where
    -- one that is refused after that
    pub refused_limiter : IsLimiter qps v4 v6 m cs wider reserved
    refused_limiter = record {
      rate = is.rate;
      ipv4 = is.ipv4;
      ipv6 = is.ipv6;
      passes = keeps.held;
      rated = rated;
      few = omega (arith, longer, few);
      ends = latest_kept m wider bs cs wider_latest keeps;
      room = record { tick = λ some. more (is.room.tick some); moments = λ k d lt. rooms (get_or reserved k d) (is.room.moments k d lt) };
    }

    -- a reservation
    pub reserved_limiter : (now : ℕ) (key : Addr) (keys : List Addr) → m ≤ now → HasRoom wider → 0 < free_of key cs → keys ≡ put_key key reserved → IsLimiter qps v4 v6 now cs wider keys
    reserved_limiter now key keys le room free put = record {
      rate = is.rate;
      ipv4 = is.ipv4;
      ipv6 = is.ipv6;
      passes = held_later m now cs le keeps.held;
      rated = rated_later qps m now cs le rated;
      few = omega (arith, longer, few, put_longer key reserved, ap (λ (keys : List Addr). length keys) put);
      ends = latest_later m now wider cs le refused_limiter.ends;
      room = record {
        tick = λ some. room;
        moments = subst (All (λ a. 0 < free_of a cs)) (sym put) (put_all (λ a. 0 < free_of a cs) key reserved refused_limiter.room.moments free);
      };
    }

-- what a reservation leaves is seen as it should be
pub reserved_is : (qps v4 v6 m now : ℕ) (bs cs : List Bucket) (addr key : Addr) (reserved keys : List Addr) → m ≤ now → key ≡ masked_of v4 v6 addr → Keeps m bs cs → keys ≡ put_key key reserved → view_of qps v4 v6 now (held_at now cs) keys ≡ reserved_at (view_of qps v4 v6 m (held_at m bs) reserved) addr now
reserved_is qps v4 v6 m now bs cs addr key reserved keys le masked keeps put =
    let passes : held_at now cs ≡ recent_passes now (held_at m bs) = keeps.passes now le ∙ sym (recent_held m now bs le) in
    let set : keys ≡ put_key (masked_of v4 v6 addr) reserved = put ∙ ap (λ (a : Addr). put_key a reserved) masked in
    ap (λ (ps : List Pass). view_of qps v4 v6 now ps keys) passes ∙ ap (λ (keys : List Addr). view_of qps v4 v6 now (recent_passes now (held_at m bs)) keys) set

pub passed_is : (qps v4 v6 m now : ℕ) (bs cs : List Bucket) (addr key : Addr) (reserved keys : List Addr) → m ≤ now → key ≡ masked_of v4 v6 addr → held_at now cs ≡ put_pass (pass_of key now) (held_at now bs) → keys ≡ [] → view_of qps v4 v6 now (held_at now cs) keys ≡ passed_at (view_of qps v4 v6 m (held_at m bs) reserved) addr now
passed_is qps v4 v6 m now bs cs addr key reserved keys le masked put none =
    let passes : held_at now cs ≡ put_pass (pass_of (masked_of v4 v6 addr) now) (recent_passes now (held_at m bs)) =
    put ∙ ap (λ (a : Addr). put_pass (pass_of a now) (held_at now bs)) masked ∙ ap (put_pass (pass_of (masked_of v4 v6 addr) now)) (sym (recent_held m now bs le)) in
    ap (λ (ps : List Pass). view_of qps v4 v6 now ps keys) passes ∙ ap (λ (keys : List Addr). view_of qps v4 v6 now (put_pass (pass_of (masked_of v4 v6 addr) now) (recent_passes now (held_at m bs))) keys) none

-- a pass
pub latest_pass : (moment now : ℕ) (last : Option ℕ) (ticks more : Ticks) (bs cs : List Bucket) → IsLatest moment ticks bs → moment ≤ now → IsTally more → All (λ m. m ≤ now) (moments_of more.list.items) → ((later : ℕ) → now ≤ later → live_at later more.list.items + cond (ends_recent later last) 1 0 ≡ live_at later ticks.list.items + cond (is_recent later now) 1 0) → ((later : ℕ) → live_count later cs + cond (ends_recent later last) 1 0 ≡ live_count later bs + cond (is_recent later now) 1 0) → IsLatest now more cs
latest_pass moment now last ticks more bs cs is le tally past count live = record {
  tally = tally;
  past = past;
  live = λ later after. omega (arith, count later after, live later, is.live later (omega arith));
}

pub passed_limiter : (qps v4 v6 now : ℕ) (cs ds : List Bucket) (more : Ticks) (keys : List Addr) → qps ≤ 1000 → v4 ≤ 32 → v6 ≤ 128 → All (IsRated qps now) cs → IsLatest now more cs → Leaves keys now cs ds → length ds ≤ many + length keys → keys ≡ [] → IsLimiter qps v4 v6 now ds more keys
passed_limiter qps v4 v6 now cs ds more keys rate ipv4 ipv6 rated ends left few none = record {
  rate = rate;
  ipv4 = ipv4;
  ipv6 = ipv6;
  passes = left.keeps.held;
  rated = left.rated qps rated;
  few = omega (arith, few);
  ends = latest_kept now more cs ds ends left.keeps;
  room = record {
    tick = λ some. absurd (omega (arith, ap (λ (keys : List Addr). length keys) none));
    moments = subst (All (λ a. 0 < free_of a ds)) (sym none) (All-nil (λ a. 0 < free_of a ds));
  };
}

-- the last moment of an address that counts is among the ticks
pub last_among : (moment now : ℕ) (last : Option ℕ) (ticks : Ticks) (bs : List Bucket) → IsLatest moment ticks bs → moment ≤ now → IfSome last (λ m. live_count (m + 1000) bs < live_count (m + 999) bs) → IfSome last (λ m. is_recent now m ≡ true → live_at (m + 1000) ticks.list.items < live_at (m + 999) ticks.list.items)
last_among moment now None ticks bs is le drops = tt
last_among moment now (Some m) ticks bs is le drops = λ recent.
    let soon : now < m + 1000 = grind (arith, nat_tests) in
    omega (arith, drops, is.live (m + 1000) (omega arith), is.live (m + 999) (omega arith))

-- one address more is no more than may be
pub crowd_few : (moment now count : ℕ) (last : Option ℕ) (ticks : Ticks) (bs : List Bucket) → IsLatest moment ticks bs → (ends_recent now last ≡ false → count ≡ 0) → (count ≡ 0 → live_at now ticks.list.items < max_live) → live_at now ticks.list.items < max_live + cond (ends_recent now last) 1 0
crowd_few moment now count last ticks bs is first others = elim (cases_Bool (ends_recent now last)) [
  | inl counts ↦ rw counts (omega (arith, live_most now ticks.list.items, is.tally.total, is.tally.crowd))
  | inr out ↦ rw out (omega (arith, others (first out)))
]

-- a reserved address has room, and there is room for a tick
pub room_reserved : (bs : List Bucket) (ticks : Ticks) (reserved : List Addr) (key : Addr) → IsRoom bs ticks reserved → Contains reserved key → (0 < free_of key bs) × HasRoom ticks
room_reserved bs ticks reserved key room there = (All-contains (λ a. 0 < free_of a bs) reserved key room.moments there, room.tick (omega (arith, there.1)))

pub past_later : (m now : ℕ) (ms : List ℕ) → m ≤ now → All (λ x. x ≤ m) ms → All (λ x. x ≤ now) ms
past_later m now ms le past = λ k d lt. omega (arith, past k d lt)

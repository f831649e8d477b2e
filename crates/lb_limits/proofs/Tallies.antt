-- Ticks, and how many addresses they say are live.
use Rattle.std.proofs.Common.{◌≡◌, Bool, true, false, not, ℕ, zero, suc, ◌+◌, ◌-◌, ◌<◌, ◌≤◌, List, [], ◌∷◌, ◌++◌, length, get_or, set, take, drop, ltb, inl, inr, refl, sym, ◌∙◌, ap, arith, subst, cond, length-set, length-drop}
use Rattle.std.specs.List.{filter, All}
use Rattle.std.specs.List.Sorted.{IsPartitionedBy, IsPartitionPoint}
use Rattle.std.proofs.Math.Seq.{map-set_same, take-length}
use Rattle.std.proofs.Math.Nat.{add-zero}
use Rattle.std.proofs.lemmas.Bool.{cases_Bool, cases_lt, cases_eq}
use Rattle.std.proofs.lemmas.Bool.Decides.{nat_tests}
use Rattle.std.proofs.lemmas.List.{length-map, map-append, take-append-drop, take_at, take_all, take_more, take-map, drop-map, get_or-map, get_or-take, get_or-drop, length-take-le}
use Rattle.std.proofs.lemmas.List.Elements.{All-nil, All-cons, All-head, All-tail, All-map, All-push, All-filter, filter-append, filter_passes}
use Rattle.std.proofs.lemmas.List.Kept.{AllPairs-filter, AllPairs-cons}
use Rattle.std.proofs.lemmas.List.Sums.{sum_by-cons, sum_by-append, sum_by-set, get_or-le-sum_by}
use Rattle.lb_limits.specs.declared.ticks.LastPasses.{LastPasses}
use Rattle.lb_limits.specs.declared.ticks.Ticks.{Ticks}
use Rattle.lb_limits.specs.Moments.{is_recent, recent_of}
use Rattle.lb_limits.specs.Window.{max_live}
use Rattle.lb_limits.specs.Ticks.{IsTally, IsTickPlace, Rises, address_count, addresses_in, live_at, live_in, max_ticks, moments_of}
use Rattle.lb_limits.proofs.Recent.{all_taken, all_dropped, filter_all, filter_fewer, filter_none, older, untrue, unfalse, still_old, still_recent}
use Rattle.lb_limits.proofs.Pairs.{pairs_append, pairs_head, pairs_tail}
use Rattle.lb_limits.proofs.Sums.{sum_filter}

abbrev one_if : Bool → ℕ
one_if b = cond b 1 0

-- what one tick has, at a moment
in_recent : (now : ℕ) (t : LastPasses) → is_recent now t.moment ≡ true → live_in now t ≡ t.addresses
in_recent now t is = rw is refl

in_old : (now : ℕ) (t : LastPasses) → is_recent now t.moment ≡ false → live_in now t ≡ 0
in_old now t is = rw is refl

in_most : (now : ℕ) (t : LastPasses) → live_in now t ≤ t.addresses
in_most now t = elim (cases_Bool (is_recent now t.moment)) [ inl is ↦ omega (arith, in_recent now t is) | inr is ↦ omega (arith, in_old now t is) ]

pub live_most : (now : ℕ) (ts : List LastPasses) → live_at now ts ≤ address_count ts
live_most now [] = omega arith
live_most now (t ∷ ts) = omega (arith, in_most now t, live_most now ts, sum_by-cons (live_in now) t ts, sum_by-cons addresses_in t ts)

pub all_recent : (now : ℕ) (ts : List LastPasses) → All (λ m. is_recent now m ≡ true) (moments_of ts) → live_at now ts ≡ address_count ts
all_recent now [] all = refl
all_recent now (t ∷ ts) all =
    omega (
      arith,
      in_recent now t (All-head (λ m. is_recent now m ≡ true) t.moment (moments_of ts) all),
      all_recent now ts (All-tail (λ m. is_recent now m ≡ true) t.moment (moments_of ts) all),
      sum_by-cons (live_in now) t ts,
      sum_by-cons addresses_in t ts,
    )

pub all_old : (now : ℕ) (ts : List LastPasses) → All (λ m. is_recent now m ≡ false) (moments_of ts) → live_at now ts ≡ 0
all_old now [] all = refl
all_old now (t ∷ ts) all =
    omega (arith, in_old now t (All-head (λ m. is_recent now m ≡ false) t.moment (moments_of ts) all), all_old now ts (All-tail (λ m. is_recent now m ≡ false) t.moment (moments_of ts) all), sum_by-cons (live_in now) t ts)

-- where the first one counts, all do
pub rest_recent : (now : ℕ) (t : LastPasses) (ts : List LastPasses) → Rises (moments_of (t ∷ ts)) → is_recent now t.moment ≡ true → All (λ m. is_recent now m ≡ true) (moments_of (t ∷ ts))
rest_recent now t ts order is =
    let later : All (λ m. t.moment < m) (moments_of ts) = pairs_head (λ a b. a < b) t.moment (moments_of ts) order in
    All-cons (λ m. is_recent now m ≡ true) t.moment (moments_of ts) is (λ k d lt. still_recent now t.moment (get_or (moments_of ts) k d) is (omega (arith, later k d lt)))

-- those before the first one that counts are out
pub out_split : (now i : ℕ) (ts : List LastPasses) (d : LastPasses) → Rises (moments_of ts) → i < length ts → All (λ m. is_recent now m ≡ false) (moments_of (take i ts)) → is_recent now (get_or ts i d).moment ≡ true → address_count (take i ts) + live_at now ts ≡ address_count ts
out_split now i [] d order lt old is = absurd (omega arith)
out_split now zero (t ∷ ts) d order lt old is = omega (arith, all_recent now (t ∷ ts) (rest_recent now t ts order is))
out_split now (suc i) (t ∷ ts) d order lt old is =
    let rest : address_count (take i ts) + live_at now ts ≡ address_count ts =
    out_split now i ts d (pairs_tail (λ a b. a < b) t.moment (moments_of ts) order) (omega arith) (All-tail (λ m. is_recent now m ≡ false) t.moment (moments_of (take i ts)) old) is in
    omega (arith, rest, in_old now t (All-head (λ m. is_recent now m ≡ false) t.moment (moments_of (take i ts)) old), sum_by-cons addresses_in t (take i ts), sum_by-cons addresses_in t ts, sum_by-cons (live_in now) t ts)

pub out_more : (now i : ℕ) (ts : List LastPasses) (d : LastPasses) → i < length ts → All (λ m. is_recent now m ≡ false) (moments_of (take i ts)) → is_recent now (get_or ts i d).moment ≡ false → All (λ m. is_recent now m ≡ false) (moments_of (take (i + 1) ts))
out_more now i ts d lt old is =
    subst (All (λ m. is_recent now m ≡ false)) (sym (ap moments_of (take_more ts i d lt) ∙ map-append (λ (t : LastPasses). t.moment) (take i ts) (get_or ts i d ∷ [])))
    (All-push (λ m. is_recent now m ≡ false) (moments_of (take i ts)) (get_or ts i d).moment old is)

pub out_all : (now i : ℕ) (ts : List LastPasses) → length ts ≤ i → All (λ m. is_recent now m ≡ false) (moments_of (take i ts)) → address_count (take i ts) + live_at now ts ≡ address_count ts
out_all now i ts end old =
    let whole : take i ts ≡ ts = take_all i ts end in
    omega (arith, ap address_count whole, all_old now ts (subst (λ (xs : List LastPasses). All (λ m. is_recent now m ≡ false) (moments_of xs)) whole old))

-- those that do not count stand before those that do
pub parted_old : (now : ℕ) (ts : List LastPasses) → Rises (moments_of ts) → IsPartitionedBy (λ (t : LastPasses). not (is_recent now t.moment)) ts
parted_old now ts order = λ i j d le within old.
    let ms : List ℕ = moments_of ts in
    let e : ℕ = d.moment in
    let size : length ms ≡ length ts = length-map ts (λ (t : LastPasses). t.moment) in
    elim (cases_lt i j) [
      | inl lt ↦
          let rises : get_or ms i e < get_or ms j e = order i j e lt (omega (arith, within, size)) in
          older now (get_or ts i d).moment (get_or ts j d).moment
          (omega (arith, rises, get_or-map (λ (t : LastPasses). t.moment) ts i d e (omega arith), get_or-map (λ (t : LastPasses). t.moment) ts j d e within)) old
      | inr ge ↦
          let same : i ≡ j = omega arith in
          rw same old
    ]

-- so those that count are what stands from the place on
pub ticks_from : (now place : ℕ) (ts : List LastPasses) → IsPartitionPoint (λ (t : LastPasses). not (is_recent now t.moment) ≡ true) (λ (t : LastPasses). not (is_recent now t.moment) ≡ false) ts place → drop place ts ≡ filter (λ (t : LastPasses). is_recent now t.moment) ts
ticks_from now place ts point =
    let front : filter (λ (t : LastPasses). is_recent now t.moment) (take place ts) ≡ [] =
    filter_none (λ (t : LastPasses). is_recent now t.moment) (take place ts) (λ k d lt. untrue (is_recent now (get_or (take place ts) k d).moment) (all_taken (λ (t : LastPasses). not (is_recent now t.moment) ≡ true) ts place point.0 k d lt)) in
    let back : filter (λ (t : LastPasses). is_recent now t.moment) (drop place ts) ≡ drop place ts =
    filter_all (λ (t : LastPasses). is_recent now t.moment) (drop place ts) (λ k d lt. unfalse (is_recent now (get_or (drop place ts) k d).moment) (all_dropped (λ (t : LastPasses). not (is_recent now t.moment) ≡ false) ts place point.1 k d lt)) in
    sym
    (ap (λ (xs : List LastPasses). filter (λ (t : LastPasses). is_recent now t.moment) xs) (sym (take-append-drop place ts))
    ∙ filter-append (λ (t : LastPasses). is_recent now t.moment) (take place ts) (drop place ts)
    ∙ ap (λ (xs : List LastPasses). xs ++ filter (λ (t : LastPasses). is_recent now t.moment) (drop place ts)) front
    ∙ back)

-- and they are left where the others are turned to the end and cut off
pub turned : (now place left : ℕ) (ts us ws : List LastPasses) → left + place ≡ length ts → us ≡ drop place ts ++ take place ts → ws ≡ take left us → drop place ts ≡ filter (λ (t : LastPasses). is_recent now t.moment) ts → ws ≡ filter (λ (t : LastPasses). is_recent now t.moment) ts
turned now place left ts us ws size turn cut rest =
    cut ∙ ap (λ (xs : List LastPasses). take left xs) turn ∙ take_at (drop place ts) (take place ts) left (omega (arith, size, length-drop place ts)) ∙ rest

-- ticks that count
pub kept_moments : (now : ℕ) (ts : List LastPasses) → moments_of (filter (λ (t : LastPasses). is_recent now t.moment) ts) ≡ recent_of now (moments_of ts)
kept_moments now [] = refl
kept_moments now (t ∷ ts) = elim (cases_Bool (is_recent now t.moment)) [
  | inl is ↦ rw is (ap (λ (ms : List ℕ). t.moment ∷ ms) (kept_moments now ts))
  | inr is ↦ rw is (kept_moments now ts)
]

pub kept_count : (now : ℕ) (ts : List LastPasses) → address_count (filter (λ (t : LastPasses). is_recent now t.moment) ts) ≡ live_at now ts
kept_count now [] = refl
kept_count now (t ∷ ts) = elim (cases_Bool (is_recent now t.moment)) [
  | inl is ↦
      let both : address_count (t ∷ filter (λ (t : LastPasses). is_recent now t.moment) ts) ≡ live_at now (t ∷ ts) =
      omega (arith, in_recent now t is, kept_count now ts, sum_by-cons addresses_in t (filter (λ (t : LastPasses). is_recent now t.moment) ts), sum_by-cons (live_in now) t ts) in
      let head : filter (λ (t : LastPasses). is_recent now t.moment) (t ∷ ts) ≡ t ∷ filter (λ (t : LastPasses). is_recent now t.moment) ts = rw is refl in
      ap address_count head ∙ both
  | inr is ↦
      let rest : live_at now ts ≡ live_at now (t ∷ ts) = omega (arith, in_old now t is, sum_by-cons (live_in now) t ts) in
      let head : filter (λ (t : LastPasses). is_recent now t.moment) (t ∷ ts) ≡ filter (λ (t : LastPasses). is_recent now t.moment) ts = rw is refl in
      ap address_count head ∙ kept_count now ts ∙ rest
]

-- some addresses had their last passes at a moment
pub record IsTickOf (m : ℕ) (ts : List LastPasses) (k : ℕ) : Type 0 where
  pub within : k < length ts
  pub at : (d : LastPasses) → (get_or ts k d).moment ≡ m
  pub value : (d : ℕ) → get_or (moments_of ts) k d ≡ m
  pub some : (d : LastPasses) → 0 < (get_or ts k d).addresses

-- so it is where the count falls as that moment goes out
pub tick_there : (m : ℕ) (ts : List LastPasses) → live_at (m + 1000) ts < live_at (m + 999) ts → (k : ℕ) × IsTickOf m ts k
tick_there m [] less = absurd (omega arith)
tick_there m (t ∷ ts) less =
    let further : live_in (m + 1000) t ≡ live_in (m + 999) t → (k : ℕ) × IsTickOf m (t ∷ ts) k = λ alike.
    let rest : (k : ℕ) × IsTickOf m ts k = tick_there m ts (omega (arith, less, alike, sum_by-cons (live_in (m + 1000)) t ts, sum_by-cons (live_in (m + 999)) t ts)) in
    (suc rest.0, record { within = omega (arith, rest.1.within); at = rest.1.at; value = rest.1.value; some = rest.1.some }) in
    elim (cases_eq t.moment m) [
      | inr differs ↦
          let alike : is_recent (m + 1000) t.moment ≡ is_recent (m + 999) t.moment = grind (arith, nat_tests) in
          further (ap (λ (b : Bool). cond b t.addresses 0) alike)
      | inl same ↦ elim (cases_eq t.addresses 0) [
        | inl none ↦ further (omega (arith, none, in_most (m + 1000) t, in_most (m + 999) t))
        | inr some ↦ (0, record { within = omega arith; at = λ d. same; value = λ d. same; some = λ d. omega arith })
      ]
    ]

-- the search finds it
pub place_found : (m k place : ℕ) (ts : List LastPasses) → Rises (moments_of ts) → IsTickPlace m place (moments_of ts) → IsTickOf m ts k → place ≡ k
place_found m k place ts order is there =
    let ms : List ℕ = moments_of ts in
    let size : length ms ≡ length ts = length-map ts (λ (t : LastPasses). t.moment) in
    elim (cases_lt k place) [
      | inl before ↦
          let low : get_or (take place ms) k 0 < m = is.below k 0 (omega (arith, before, is.within, length-take-le place ms is.within)) in
          absurd (omega (arith, low, get_or-take place ms k 0 before, there.value 0))
      | inr after ↦ elim (cases_lt place k) [
        | inl early ↦
            let high : m ≤ get_or (drop place ms) 0 0 = is.above 0 0 (omega (arith, length-drop place ms, there.within, size, early)) in
            let rises : get_or ms place 0 < get_or ms k 0 = order place k 0 early (omega (arith, there.within, size)) in
            absurd (omega (arith, high, rises, get_or-drop place ms 0 0, ap (λ (n : ℕ). get_or ms n 0) (add-zero place), there.value 0))
        | inr late ↦ omega arith
      ]
    ]

pub tick_at : (m place : ℕ) (ts ms : List LastPasses) → Rises (moments_of ts) → ms ≡ ts → IsTickPlace m place (moments_of ms) → live_at (m + 1000) ts < live_at (m + 999) ts → IsTickOf m ts place
tick_at m place ts ms order same is less =
    let there : (k : ℕ) × IsTickOf m ts k = tick_there m ts less in
    let at : IsTickPlace m place (moments_of ts) = subst (λ (xs : List LastPasses). IsTickPlace m place (moments_of xs)) same is in
    subst (IsTickOf m ts) (sym (place_found m there.0 place ts order at there.1)) there.1

-- of milliseconds that all count there are no more than a window has
climbs : (low : ℕ) (ms : List ℕ) → Rises ms → All (λ m. low ≤ m) ms → (k d : ℕ) → k < length ms → low + k ≤ get_or ms k d
climbs low [] order above k d lt = absurd (omega arith)
climbs low (m ∷ ms) order above zero d lt = omega (arith, All-head (λ m. low ≤ m) m ms above)
climbs low (m ∷ ms) order above (suc k) d lt =
    let least : low ≤ m = All-head (λ m. low ≤ m) m ms above in
    let later : All (λ n. m < n) ms = pairs_head (λ a b. a < b) m ms order in
    omega (arith, climbs (low + 1) ms (pairs_tail (λ a b. a < b) m ms order) (λ j e within. omega (arith, least, later j e within)) k d (omega arith))

least_recent : (now m : ℕ) → is_recent now m ≡ true → now - 999 ≤ m
least_recent now m is = grind (arith, nat_tests)

pub window_few : (now : ℕ) (ms : List ℕ) → Rises ms → All (λ m. m ≤ now) ms → All (λ m. is_recent now m ≡ true) ms → length ms ≤ max_ticks
window_few now [] order past recent = omega arith
window_few now (m ∷ ms) order past recent =
    let low : All (λ n. now - 999 ≤ n) (m ∷ ms) = λ k d lt. least_recent now (get_or (m ∷ ms) k d) (recent k d lt) in
    let last : (now - 999) + length ms ≤ get_or (m ∷ ms) (length ms) 0 = climbs (now - 999) (m ∷ ms) order low (length ms) 0 (omega arith) in
    omega (arith, last, past (length ms) 0 (omega arith))

-- ticks without those that no longer count
pub forgot_tally : (now : ℕ) (old new : Ticks) → IsTally old → new.list.items ≡ filter (λ (t : LastPasses). is_recent now t.moment) old.list.items → new.total ≡ live_at now old.list.items → IsTally new
forgot_tally now old new is items total =
    let ts : List LastPasses = old.list.items in
    let moments : moments_of new.list.items ≡ recent_of now (moments_of ts) = ap moments_of items ∙ kept_moments now ts in
    record {
      order = subst Rises (sym moments) (AllPairs-filter (λ a b. a < b) (is_recent now) (moments_of ts) is.order);
      few = omega (arith, ap (λ (xs : List LastPasses). length xs) items, filter_fewer (λ (t : LastPasses). is_recent now t.moment) ts, is.few);
      total = total ∙ sym (kept_count now ts) ∙ sym (ap address_count items);
      crowd = omega (arith, total, live_most now ts, is.total, is.crowd);
    }

pub forgot_recent : (now : ℕ) (old new : List LastPasses) → new ≡ filter (λ (t : LastPasses). is_recent now t.moment) old → All (λ m. is_recent now m ≡ true) (moments_of new)
forgot_recent now old new items = subst (All (λ m. is_recent now m ≡ true)) (sym (ap moments_of items ∙ kept_moments now old)) (filter_passes (is_recent now) (moments_of old))

pub forgot_past : (now most : ℕ) (old new : List LastPasses) → new ≡ filter (λ (t : LastPasses). is_recent now t.moment) old → All (λ m. m ≤ most) (moments_of old) → All (λ m. m ≤ most) (moments_of new)
forgot_past now most old new items past = subst (All (λ m. m ≤ most)) (sym (ap moments_of items ∙ kept_moments now old)) (All-filter (is_recent now) (λ m. m ≤ most) (moments_of old) past)

pub forgot_live : (now later : ℕ) (old new : List LastPasses) → now ≤ later → new ≡ filter (λ (t : LastPasses). is_recent now t.moment) old → live_at later new ≡ live_at later old
forgot_live now later old new le items =
    ap (live_at later) items
    ∙ sum_filter (λ (t : LastPasses). ℕ) (λ (t : LastPasses). is_recent now t.moment) (live_in later) (λ t n out. in_old later t (still_old now later t.moment le out)) old (λ k d lt. 0)

-- one address more at a tick
step : (now m : ℕ) (s t : LastPasses) → s.moment ≡ m → t.moment ≡ m → s.addresses ≡ t.addresses + 1 → live_in now s ≡ live_in now t + cond (is_recent now m) 1 0
step now m s t at_s at_t more = elim (cases_Bool (is_recent now m)) [
  | inl is ↦
      let one : one_if (is_recent now m) ≡ 1 = ap one_if is in
      omega (arith, one, more, in_recent now s (ap (is_recent now) at_s ∙ is), in_recent now t (ap (is_recent now) at_t ∙ is))
  | inr is ↦
      let none : one_if (is_recent now m) ≡ 0 = ap one_if is in
      omega (arith, none, in_old now s (ap (is_recent now) at_s ∙ is), in_old now t (ap (is_recent now) at_t ∙ is))
]

pub set_moments : (place : ℕ) (ts : List LastPasses) (t d : LastPasses) → t.moment ≡ (get_or ts place d).moment → moments_of (set ts place t) ≡ moments_of ts
set_moments place ts t d same = map-set_same (λ (t : LastPasses). t.moment) ts place t d same

pub lowered_live : (now m place : ℕ) (ts : List LastPasses) (t d : LastPasses) → place < length ts → (get_or ts place d).moment ≡ m → t.moment ≡ (get_or ts place d).moment → (get_or ts place d).addresses ≡ t.addresses + 1 → live_at now (set ts place t) + cond (is_recent now m) 1 0 ≡ live_at now ts
lowered_live now m place ts t d lt at same less = omega (arith, sum_by-set (live_in now) ts place t d lt, step now m (get_or ts place d) t at (same ∙ at) less)

pub raised_live : (now m place : ℕ) (ts : List LastPasses) (t d : LastPasses) → place < length ts → (get_or ts place d).moment ≡ m → t.moment ≡ (get_or ts place d).moment → t.addresses ≡ (get_or ts place d).addresses + 1 → live_at now (set ts place t) ≡ live_at now ts + cond (is_recent now m) 1 0
raised_live now m place ts t d lt at same more = omega (arith, sum_by-set (live_in now) ts place t d lt, step now m t (get_or ts place d) (same ∙ at) at more)

-- ticks of which one has other addresses
pub set_tally : (old new : Ticks) (place : ℕ) (t d : LastPasses) → IsTally old → place < length old.list.items → t.moment ≡ (get_or old.list.items place d).moment → new.list.items ≡ set old.list.items place t → new.total + (get_or old.list.items place d).addresses ≡ old.total + t.addresses → new.total ≤ max_live → IsTally new
set_tally old new place t d is lt same items total crowd = record {
  order = subst Rises (sym (ap moments_of items ∙ set_moments place old.list.items t d same)) is.order;
  few = omega (arith, ap (λ (xs : List LastPasses). length xs) items, length-set old.list.items place t, is.few);
  total = omega (arith, total, is.total, ap address_count items, sum_by-set addresses_in old.list.items place t d lt);
  crowd = crowd;
}

-- one address more had its last pass now, and is not yet in the total
pub record Raised (now : ℕ) (old new : Ticks) : Type 0 where
  pub order : Rises (moments_of new.list.items)
  pub few : length new.list.items ≤ max_ticks
  pub count : address_count new.list.items ≡ old.total + 1
  pub total : new.total ≡ old.total
  pub past : All (λ m. m ≤ now) (moments_of new.list.items)
  pub live : (later : ℕ) → live_at later new.list.items ≡ live_at later old.list.items + cond (is_recent later now) 1 0

pub raised_tally : (now : ℕ) (old new : Ticks) → Raised now old new → old.total < max_live → IsTally (record { list = new.list; total = new.total + 1 })
raised_tally now old new is crowd = record { order = is.order; few = is.few; total = omega (arith, is.count, is.total); crowd = omega (arith, is.total, crowd) }

pub raised_set : (now place : ℕ) (old new : Ticks) (t d : LastPasses) → IsTally old → All (λ m. m ≤ now) (moments_of old.list.items) → place < length old.list.items → (get_or old.list.items place d).moment ≡ now → t.moment ≡ (get_or old.list.items place d).moment → t.addresses ≡ (get_or old.list.items place d).addresses + 1 → new.list.items ≡ set old.list.items place t → new.total ≡ old.total → Raised now old new
raised_set now place old new t d is past lt at same more items total =
    let moments : moments_of new.list.items ≡ moments_of old.list.items = ap moments_of items ∙ set_moments place old.list.items t d same in
    record {
      order = subst Rises (sym moments) is.order;
      few = omega (arith, ap (λ (xs : List LastPasses). length xs) items, length-set old.list.items place t, is.few);
      count = omega (arith, is.total, more, ap address_count items, sum_by-set addresses_in old.list.items place t d lt);
      total = total;
      past = subst (All (λ m. m ≤ now)) (sym moments) past;
      live = λ later. ap (live_at later) items ∙ raised_live later now place old.list.items t d lt at same more;
    }

pushed_live : (later now : ℕ) (ts : List LastPasses) (t : LastPasses) → t.moment ≡ now → t.addresses ≡ 1 → live_at later (ts ++ t ∷ []) ≡ live_at later ts + cond (is_recent later now) 1 0
pushed_live later now ts t at one =
    let here : live_in later t ≡ cond (is_recent later now) 1 0 = ap (λ (m : ℕ). cond (is_recent later m) t.addresses 0) at ∙ ap (λ (n : ℕ). cond (is_recent later now) n 0) one in
    omega (arith, here, sum_by-append (live_in later) ts (t ∷ []), sum_by-cons (live_in later) t [])

pub raised_push : (now : ℕ) (old new : Ticks) (t : LastPasses) → IsTally old → All (λ m. m < now) (moments_of old.list.items) → All (λ m. is_recent now m ≡ true) (moments_of old.list.items) → t.moment ≡ now → t.addresses ≡ 1 → new.list.items ≡ old.list.items ++ t ∷ [] → new.total ≡ old.total → Raised now old new
raised_push now old new t is before recent at one items total =
    let ts : List LastPasses = old.list.items in
    let moments : moments_of new.list.items ≡ moments_of ts ++ t.moment ∷ [] = ap moments_of items ∙ map-append (λ (t : LastPasses). t.moment) ts (t ∷ []) in
    let here : is_recent now now ≡ true = grind (arith, nat_tests) in
    let order : Rises (moments_of ts ++ t.moment ∷ []) =
    pairs_append (λ a b. a < b) (moments_of ts) (t.moment ∷ []) is.order (AllPairs-cons (λ a b. a < b) t.moment [] (All-nil (λ b. t.moment < b)) (λ i j d lt within. absurd (omega arith)))
    (λ k d lt. All-cons (λ b. get_or (moments_of ts) k d < b) t.moment [] (omega (arith, at, before k d lt)) (All-nil (λ b. get_or (moments_of ts) k d < b))) in
    let counts : All (λ m. is_recent now m ≡ true) (moments_of ts ++ t.moment ∷ []) = All-push (λ m. is_recent now m ≡ true) (moments_of ts) t.moment recent (ap (is_recent now) at ∙ here) in
    let past : All (λ m. m ≤ now) (moments_of ts ++ t.moment ∷ []) = All-push (λ m. m ≤ now) (moments_of ts) t.moment (λ k d lt. omega (arith, before k d lt)) (omega (arith, at)) in
    record {
      order = subst Rises (sym moments) order;
      few = omega (arith, window_few now (moments_of ts ++ t.moment ∷ []) order past counts, ap (λ (ms : List ℕ). length ms) moments, length-map new.list.items (λ (t : LastPasses). t.moment));
      count = omega (arith, is.total, one, ap address_count items, sum_by-append addresses_in ts (t ∷ []), sum_by-cons addresses_in t []);
      total = total;
      past = subst (All (λ m. m ≤ now)) (sym moments) past;
      live = λ later. ap (live_at later) items ∙ pushed_live later now ts t at one;
    }

-- the tick of now is at the place where the search ends, or there is none
pub place_now : (now place : ℕ) (ts xs : List LastPasses) (d : LastPasses) → xs ≡ ts → IsTickPlace now place (moments_of xs) → All (λ m. m ≤ now) (moments_of ts) → place < length ts → (get_or ts place d).moment ≡ now
place_now now place ts xs d same at past lt =
    let is : IsTickPlace now place (moments_of ts) = subst (λ (ys : List LastPasses). IsTickPlace now place (moments_of ys)) same at in
    let ms : List ℕ = moments_of ts in
    let size : length ms ≡ length ts = length-map ts (λ (t : LastPasses). t.moment) in
    let e : ℕ = d.moment in
    let value : get_or ms place e ≡ (get_or ts place d).moment = get_or-map (λ (t : LastPasses). t.moment) ts place d e lt in
    let least : now ≤ get_or (drop place ms) 0 e = is.above 0 e (omega (arith, length-drop place ms, size, lt)) in
    omega (arith, least, get_or-drop place ms 0 e, ap (λ (n : ℕ). get_or ms n e) (add-zero place), value, past place e (omega (arith, size, lt)))

pub place_end : (now place : ℕ) (ts xs : List LastPasses) → xs ≡ ts → IsTickPlace now place (moments_of xs) → length ts ≤ place → All (λ m. m < now) (moments_of ts)
place_end now place ts xs same at end =
    let is : IsTickPlace now place (moments_of ts) = subst (λ (ys : List LastPasses). IsTickPlace now place (moments_of ys)) same at in
    let whole : place ≡ length (moments_of ts) = omega (arith, is.within, end, length-map ts (λ (t : LastPasses). t.moment)) in
    subst (All (λ m. m < now)) (ap (λ (n : ℕ). take n (moments_of ts)) whole ∙ take-length (moments_of ts)) is.below

-- the addresses of one tick are among all
pub one_few : (place : ℕ) (ts : List LastPasses) (d : LastPasses) → place < length ts → (get_or ts place d).addresses ≤ address_count ts
one_few place ts d lt = get_or-le-sum_by addresses_in ts place d lt

-- moments below one stand before the others
lower_test : (n m : ℕ) → ltb n m ≡ true → n < m
lower_test n m is = grind (arith, nat_tests)

higher_test : (n m : ℕ) → ltb n m ≡ false → m ≤ n
higher_test n m is = grind (arith, nat_tests)

pub parted_ticks : (m : ℕ) (ts : List LastPasses) → Rises (moments_of ts) → IsPartitionedBy (λ (t : LastPasses). ltb t.moment m) ts
parted_ticks m ts order = λ i j d le within below.
    let ms : List ℕ = moments_of ts in
    let size : length ms ≡ length ts = length-map ts (λ (t : LastPasses). t.moment) in
    let e : ℕ = d.moment in
    let high : (get_or ts j d).moment < m = lower_test (get_or ts j d).moment m below in
    elim (cases_lt i j) [
      | inl lt ↦
          let rises : get_or ms i e < get_or ms j e = order i j e lt (omega (arith, within, size)) in
          let low : (get_or ts i d).moment < m = omega (arith, rises, high, get_or-map (λ (t : LastPasses). t.moment) ts i d e (omega arith), get_or-map (λ (t : LastPasses). t.moment) ts j d e within) in
          grind (arith, nat_tests, low)
      | inr ge ↦
          let same : i ≡ j = omega arith in
          rw same below
    ]

pub tick_place : (m : ℕ) (ts : List LastPasses) (place : ℕ) → place ≤ length ts → IsPartitionPoint (λ (t : LastPasses). ltb t.moment m ≡ true) (λ (t : LastPasses). ltb t.moment m ≡ false) ts place → IsTickPlace m place (moments_of ts)
tick_place m ts place within point =
    let size : length (moments_of ts) ≡ length ts = length-map ts (λ (t : LastPasses). t.moment) in
    let below : All (λ (t : LastPasses). ltb t.moment m ≡ true) (take place ts) = all_taken (λ (t : LastPasses). ltb t.moment m ≡ true) ts place point.0 in
    let above : All (λ (t : LastPasses). ltb t.moment m ≡ false) (drop place ts) = all_dropped (λ (t : LastPasses). ltb t.moment m ≡ false) ts place point.1 in
    record {
      within = omega (arith, within, size);
      below = subst (All (λ n. n < m)) (sym (take-map (λ (t : LastPasses). t.moment) place ts)) (All-map (λ n. n < m) (λ (t : LastPasses). t.moment) (take place ts) (λ k d lt. lower_test (get_or (take place ts) k d).moment m (below k d lt)));
      above = subst (All (λ n. m ≤ n)) (sym (drop-map (λ (t : LastPasses). t.moment) place ts)) (All-map (λ n. m ≤ n) (λ (t : LastPasses). t.moment) (drop place ts) (λ k d lt. higher_test (get_or (drop place ts) k d).moment m (above k d lt)));
    }

-- What a limiter holds of each masked address: a bucket with the moments of its passes.
use Rattle.std.specs.Prelude.{◌≡◌, ℕ, ◌+◌, ◌-◌, ◌<◌, ◌≤◌, Bool, true, false, nat_lt, ◌||◌, List, [], ◌∷◌, length, get_or, map, take, drop, if◌then◌else◌}
use Rattle.std.specs.List.{flat_map, sum_by, count_by, list_any, All, AllPairs}
use Rattle.std.specs.List.Sorted.{IsNonDecreasing}
use Rattle.std.specs.Ordering.{is_lt}
use Rattle.circular_buffer.specs.Buffer.{last_item}
use Rattle.lb_wire.specs.declared.addr.Addr.{Addr}
use Rattle.lb_limits.specs.declared.pass.Pass.{Pass}
use Rattle.lb_limits.specs.declared.bucket.Bucket.{Bucket}
use Rattle.lb_limits.specs.Order.{same_addr, cmp_addr}
use Rattle.lb_limits.specs.Moments.{recent_of, ends_recent}

-- a pass of an address at a moment
abbrev pub pass_of : Addr → ℕ → Pass
pass_of source moment = record { source = source; moment = moment }

-- a bucket's moments that count, as passes
abbrev pub bucket_passes : ℕ → Bucket → List Pass
bucket_passes now b = map (pass_of b.source) (recent_of now b.moments.items)

-- the passes of all buckets that count
abbrev pub held_at : ℕ → List Bucket → List Pass
held_at now buckets = flat_map (bucket_passes now) buckets

-- how many moments of a masked address count
abbrev pub window_in : Addr → ℕ → Bucket → ℕ
window_in key now b = if same_addr key b.source then length (recent_of now b.moments.items) else 0

abbrev pub window_count : Addr → ℕ → List Bucket → ℕ
window_count key now buckets = sum_by (window_in key now) buckets

-- how many buckets have a moment that counts
abbrev pub is_live : ℕ → Bucket → Bool
is_live now b = nat_lt 0 (length (recent_of now b.moments.items))

abbrev pub live_count : ℕ → List Bucket → ℕ
live_count now buckets = count_by (is_live now) buckets

-- how many places for moments of a masked address are free
abbrev pub free_in : Addr → Bucket → ℕ
free_in key b = if same_addr key b.source then b.moments.capacity - length b.moments.items else 0

abbrev pub free_of : Addr → List Bucket → ℕ
free_of key buckets = sum_by (free_in key) buckets

-- a bucket's address stands before a masked address
abbrev pub is_below : Addr → Bucket → Bool
is_below key b = is_lt (cmp_addr b.source key)

-- each address has one bucket, and they stand in the order of addresses
abbrev pub Ascends : List Bucket → Type 0
Ascends buckets = AllPairs (λ a b. is_below b.source a ≡ true) buckets

-- whether the first bucket is of a masked address
abbrev pub begins : Addr → List Bucket → Bool
begins key [] = false
begins key (b ∷ buckets) = same_addr key b.source

-- the place of a masked address among buckets
pub record IsPlace (key : Addr) (place : ℕ) (buckets : List Bucket) : Type 0 where
  pub within : place ≤ length buckets
  pub below : All (λ b. is_below key b ≡ true) (take place buckets)
  pub above : All (λ b. is_below key b ≡ false) (drop place buckets)

-- where there are more buckets than this beside those that are reserved, the ones that are neither live nor reserved go
abbrev pub many : ℕ
many = 8192

-- the moments of a bucket ascend, none is later than the one that the limiter stands at, and they are in its places
pub record IsBucket (moment : ℕ) (b : Bucket) : Type 0 where
  pub order : IsNonDecreasing b.moments.items
  pub past : All (λ m. m ≤ moment) b.moments.items
  pub places : length b.moments.items ≤ b.moments.capacity

-- no more moments of a bucket count than the rate allows, and it has one place more than that at most
pub record IsRated (qps moment : ℕ) (b : Bucket) : Type 0 where
  pub rate : length (recent_of moment b.moments.items) ≤ qps
  pub places : b.moments.capacity ≤ qps + 1

-- the buckets are in order, each as above
pub record IsHeld (moment : ℕ) (buckets : List Bucket) : Type 0 where
  pub order : Ascends buckets
  pub each : All (IsBucket moment) buckets

-- the buckets changed in nothing that counts
pub record Keeps (moment : ℕ) (old new : List Bucket) : Type 0 where
  pub held : IsHeld moment new
  pub passes : (now : ℕ) → moment ≤ now → held_at now new ≡ held_at now old
  pub live : (now : ℕ) → moment ≤ now → live_count now new ≡ live_count now old

-- whether a sweep keeps a bucket: its last moment counts, or its address is reserved
abbrev pub stays : List Addr → ℕ → Bucket → Bool
stays reserved moment b = ends_recent moment (last_item b.moments.items) || list_any (same_addr b.source) reserved

-- at a place there is a bucket that a sweep gives up
pub record IsIdleAt (reserved : List Addr) (moment place : ℕ) (buckets : List Bucket) : Type 0 where
  pub within : place < length buckets
  pub idle : (d : Bucket) → stays reserved moment (get_or buckets place d) ≡ false

-- no bucket was given up that a sweep keeps, and the others are as they were
pub record Leaves (reserved : List Addr) (moment : ℕ) (old new : List Bucket) : Type 0 where
  pub keeps : Keeps moment old new
  pub fewer : length new ≤ length old
  pub rated : (qps : ℕ) → All (IsRated qps moment) old → All (IsRated qps moment) new
  pub rooms : All (λ key. 0 < free_of key old) reserved → All (λ key. 0 < free_of key new) reserved

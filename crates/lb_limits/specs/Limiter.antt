-- What a limiter keeps true of its fields.
use Rattle.std.specs.Prelude.{◌≡◌, ℕ, ◌+◌, ◌<◌, ◌≤◌, List, length}
use Rattle.std.specs.List.{All}
use Rattle.lb_wire.specs.declared.addr.Addr.{Addr}
use Rattle.lb_limits.specs.declared.bucket.Bucket.{Bucket}
use Rattle.lb_limits.specs.declared.ticks.Ticks.{Ticks}
use Rattle.lb_limits.specs.Buckets.{IsHeld, IsRated, live_count, free_of, many}
use Rattle.lb_limits.specs.Ticks.{HasRoom, IsTally, live_at, moments_of}

-- as many addresses are live by the ticks as there are live buckets, and no tick is later than the limiter's moment
pub record IsLatest (moment : ℕ) (ticks : Ticks) (buckets : List Bucket) : Type 0 where
  pub tally : IsTally ticks
  pub past : All (λ m. m ≤ moment) (moments_of ticks.list.items)
  pub live : (now : ℕ) → moment ≤ now → live_at now ticks.list.items ≡ live_count now buckets

-- where addresses are reserved, there is room for a moment of each, and for one more tick
pub record IsRoom (buckets : List Bucket) (ticks : Ticks) (reserved : List Addr) : Type 0 where
  pub tick : 0 < length reserved → HasRoom ticks
  pub moments : All (λ key. 0 < free_of key buckets) reserved

-- the rate and the lengths are as they may be, what is held is as said above, no address has more passes that count than
-- the rate nor places for many more, and there are not many buckets beside those of reserved addresses
pub record IsLimiter (qps v4 v6 moment : ℕ) (buckets : List Bucket) (ticks : Ticks) (reserved : List Addr) : Type 0 where
  pub rate : qps ≤ 1000
  pub ipv4 : v4 ≤ 32
  pub ipv6 : v6 ≤ 128
  pub passes : IsHeld moment buckets
  pub rated : All (IsRated qps moment) buckets
  pub few : length buckets ≤ many + 1 + length reserved
  pub ends : IsLatest moment ticks buckets
  pub room : IsRoom buckets ticks reserved

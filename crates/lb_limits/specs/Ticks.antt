-- The milliseconds in which addresses had their last passes, each with how many addresses had them then.
use Rattle.std.specs.Prelude.{◌≡◌, ℕ, ◌<◌, ◌≤◌, List, length, map, take, drop, vec_len, vec_capacity, if◌then◌else◌}
use Rattle.std.specs.List.{sum_by, All, AllPairs}
use Rattle.lb_limits.specs.declared.ticks.LastPasses.{LastPasses}
use Rattle.lb_limits.specs.declared.ticks.Ticks.{Ticks}
use Rattle.lb_limits.specs.Moments.{is_recent}
use Rattle.lb_limits.specs.Window.{max_live}

-- the moments of ticks
abbrev pub moments_of : List LastPasses → List ℕ
moments_of ticks = map (λ (tick : LastPasses). tick.moment) ticks

-- the addresses of a tick
abbrev pub addresses_in : LastPasses → ℕ
addresses_in tick = tick.addresses

-- the addresses of all ticks together
abbrev pub address_count : List LastPasses → ℕ
address_count ticks = sum_by addresses_in ticks

-- how many addresses of a tick are live
abbrev pub live_in : ℕ → LastPasses → ℕ
live_in now tick = if is_recent now tick.moment then tick.addresses else 0

-- how many addresses are live
abbrev pub live_at : ℕ → List LastPasses → ℕ
live_at now ticks = sum_by (live_in now) ticks

-- so many milliseconds count
abbrev pub max_ticks : ℕ
max_ticks = 1000

-- moments, each later than those before it
abbrev pub Rises : List ℕ → Type 0
Rises moments = AllPairs (λ a b. a < b) moments

-- the ticks ascend, there are no more of them than milliseconds count, their addresses are counted, and are no more than
-- may be live
pub record IsTally (ticks : Ticks) : Type 0 where
  pub order : Rises (moments_of ticks.list.items)
  pub few : length ticks.list.items ≤ max_ticks
  pub total : ticks.total ≡ address_count ticks.list.items
  pub crowd : ticks.total ≤ max_live

-- there is room for one tick more
abbrev pub HasRoom : Ticks → Type 0
HasRoom ticks = vec_len ticks.list < vec_capacity ticks.list

-- the place of a moment among moments that rise
pub record IsTickPlace (moment place : ℕ) (moments : List ℕ) : Type 0 where
  pub within : place ≤ length moments
  pub below : All (λ m. m < moment) (take place moments)
  pub above : All (λ m. moment ≤ m) (drop place moments)

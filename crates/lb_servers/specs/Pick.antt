-- The choice of a server in a pool, by the pool's policy.
use Rattle.std.specs.Prelude.{◌≡◌, ℕ, ◌%◌, nat_lt, Bool, true, false, List, length, Option, None, Some, option_map, slice_get, if◌then◌else◌}
use Rattle.std.specs.List.{filter, filter_map, list_any, reduce}
use Rattle.std.specs.Option.{option_and_then}
use Rattle.lb_wire.specs.declared.ids.PoolId.{PoolId}
use Rattle.lb_wire.specs.declared.ids.ServerId.{ServerId}
use Rattle.lb_servers.specs.declared.pool.Policy.{Policy}
use Rattle.lb_servers.specs.declared.pool.Policy.TheVariants.{FirstAvailable, LeastOutstanding, RoundRobin}
use Rattle.lb_servers.specs.declared.pool.Pool.{Pool}
use Rattle.lb_servers.specs.declared.server.Loaded.{Loaded}
use Rattle.lb_servers.specs.Pool.{same_pool}
use Rattle.lb_servers.specs.Server.{is_up_in}
use Rattle.lb_servers.specs.Ranks.{StandAt, by_order}

-- the up servers of a pool, by order, then age
abbrev pub up_servers : PoolId → List Loaded → List Loaded
up_servers pool servers = filter (is_up_in pool) (by_order servers)

-- of two servers the one with fewer queries outstanding, the earlier one where they have the same number
abbrev pub less_loaded : Loaded → Loaded → Loaded
less_loaded a b = if nat_lt b.outstanding a.outstanding then b else a

-- the choice among the up servers: the first one; the first of those with the fewest queries outstanding; the one at the
-- place that the turn gives, going round
abbrev pub chosen : Policy → ℕ → List Loaded → Option Loaded
chosen FirstAvailable turn ups = slice_get ups 0
chosen LeastOutstanding turn ups = reduce less_loaded ups
chosen RoundRobin turn ups = slice_get ups (turn % length ups)

-- the server that a pool picks; none where the pool is not there or has no server that is up
abbrev pub picked : List Loaded → List Pool → PoolId → Option ServerId
picked servers pools pool = option_and_then (λ p. option_map (λ l. l.server.id) (chosen p.policy p.turn (up_servers pool servers))) (slice_get pools pool.0)

-- whether a server that may be there stands in a pool and is up
abbrev pub is_up_at : PoolId → Option Loaded → Bool
is_up_at pool None = false
is_up_at pool (Some l) = is_up_in pool l

-- those of some places of the list where servers of a pool stand that are up
abbrev pub up_places : PoolId → List Loaded → List ℕ → List ℕ
up_places pool servers places = filter (λ at. is_up_at pool (slice_get servers at)) places

-- of each pool, by number, the places of its up servers, by order, then age
abbrev pub AreUps : List Loaded → List (List ℕ) → Type 0
AreUps servers ups = (number : ℕ) (places : List ℕ) → slice_get ups number ≡ Some places → StandAt servers places (up_servers (record { 0 = number }) servers)

-- the places of the up servers of one pool, found anew or as they were
abbrev pub IsRemade : Bool → PoolId → List Loaded → Option (List ℕ) → List ℕ → Type 0
IsRemade true pool servers was places = StandAt servers places (up_servers pool servers)
IsRemade false pool servers was places = was ≡ Some places

-- those of these pools found anew, those of the others as they were
abbrev pub AreRemade : List PoolId → List Loaded → List (List ℕ) → List (List ℕ) → Type 0
AreRemade pools servers was ups = (number : ℕ) (places : List ℕ) → slice_get ups number ≡ Some places → IsRemade (list_any (same_pool (record { 0 = number })) pools) (record { 0 = number }) servers (slice_get was number) places

-- the servers at some places of the list
abbrev pub servers_at : List Loaded → List ℕ → List Loaded
servers_at servers places = filter_map (slice_get servers) places

abbrev pub server_at : List Loaded → Option ℕ → Option Loaded
server_at servers place = option_and_then (slice_get servers) place

-- the less loaded of the best server so far and the next one, where they are there
abbrev pub best_of : Option Loaded → Option Loaded → Option Loaded
best_of best None = best
best_of None (Some next) = Some next
best_of (Some best) (Some next) = Some (less_loaded best next)

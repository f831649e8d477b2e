-- The table of servers and pools, and its edits.
use Rattle.std.specs.Prelude.{◌≡◌, ℕ, ◌+◌, ◌^◌, ◌<◌, ◌≤◌, Bool, true, false, not, ◌==◌, nat_le, List, [], ◌∷◌, ◌++◌, length, Option, None, Some, is_some, option_map, Result, Ok, Err, bytes_eq, slice_get, if◌then◌else◌}
use Rattle.std.specs.List.{AllByRecursion, count_by, filter, list_any}
use Rattle.lb_wire.specs.declared.ids.CacheId.{CacheId}
use Rattle.lb_wire.specs.declared.ids.PoolId.{PoolId}
use Rattle.lb_wire.specs.declared.ids.ServerId.{ServerId}
use Rattle.lb_servers.specs.declared.fault.ParkFault.{ParkFault}
use Rattle.lb_servers.specs.declared.fault.ParkFault.TheVariants as faults
use Rattle.lb_servers.specs.declared.pool.PoolName.{PoolName}
use Rattle.lb_servers.specs.declared.pool.PoolName.TheVariants as names
use Rattle.lb_servers.specs.declared.pool.Pool.{Pool}
use Rattle.lb_servers.specs.declared.server.Loaded.{Loaded}
use Rattle.lb_servers.specs.declared.spec.ServerSpec.{ServerSpec}
use Rattle.lb_servers.specs.Pick.{AreUps}
use Rattle.lb_servers.specs.Pool.{cache_at, change_at, is_named, new_pool, same_pool, with_cache}
use Rattle.lb_servers.specs.Ranks.{StandAt, by_order}
use Rattle.lb_servers.specs.Server.{ByNumber, change_server, is_server, server_named}
use Rattle.lb_servers.specs.Spec.{lacks_pool, new_server, stated_pools}

-- the next server and cache numbers (2^64 once all are given), the servers by number, each with how many queries it has
-- outstanding, and the pools by number, which is their place: the default pool is the first
pub record Backends : Type 0 where
  pub next : ℕ
  pub next_cache : ℕ
  pub servers : List Loaded
  pub pools : List Pool

-- the table of these servers and pools, of which the next server and cache numbers follow on the
-- last ones given
abbrev pub backends_of : ℕ → ℕ → List Loaded → List Pool → Backends
backends_of last_server last_cache servers pools = record { next = last_server + 1; next_cache = last_cache + 1; servers = servers; pools = pools }

-- at first: no server, and the default pool
abbrev pub no_backends : Backends
no_backends = record { next = 1; next_cache = 1; servers = []; pools = new_pool names.Default ∷ [] }

-- the most servers, and the most pools, the default one counted
abbrev pub max_servers : ℕ
max_servers = 256

abbrev pub max_pools : ℕ
max_pools = 64

-- a pool added after the others: the refusals in their order, and else the table with it and its number
abbrev pub added_pool : Bool → Backends → PoolName → Backends × Result PoolId ParkFault
added_pool lacking park name =
    if list_any (is_named name) park.pools then (park, Err faults.NameTaken)
    else (if nat_le max_pools (length park.pools) then (park, Err faults.TooMany)
    else (if lacking then (park, Err faults.NoMemory)
    else (record park { pools = park.pools ++ new_pool name ∷ [] }, Ok (record { 0 = length park.pools }))))

-- a server added after the others: the refusals in their order, and else the table with it and its number
abbrev pub added_server : Bool → Backends → ServerSpec → Backends × Result ServerId ParkFault
added_server lacking park spec =
    if lacks_pool park.pools (stated_pools spec.pools) then (park, Err faults.NoSuchPool)
    else (if is_some (server_named park.servers spec.name) then (park, Err faults.NameTaken)
    else (if nat_le max_servers (length park.servers) then (park, Err faults.TooMany)
    else (if park.next == 2 ^ 64 then (park, Err faults.NoMoreIds)
    else (if lacking then (park, Err faults.NoMemory)
    else (record park { next = park.next + 1; servers = park.servers ++ new_server park.next park.pools spec ∷ [] }, Ok (record { 0 = park.next }))))))

-- the first refusal of such a server, lack of memory left out
abbrev pub server_fault : Backends → ServerSpec → Option ParkFault
server_fault park spec =
    if lacks_pool park.pools (stated_pools spec.pools) then Some faults.NoSuchPool
    else (if is_some (server_named park.servers spec.name) then Some faults.NameTaken
    else (if nat_le max_servers (length park.servers) then Some faults.TooMany
    else (if park.next == 2 ^ 64 then Some faults.NoMoreIds
    else None)))

-- the table without the server of a number
abbrev pub removed_server : Backends → ServerId → Backends × Result (Unit {0}) ParkFault
removed_server park id =
    if list_any (is_server id) park.servers then (record park { servers = filter (λ l. not (is_server id l)) park.servers }, Ok tt)
    else (park, Err faults.NoSuchServer)

-- the table with the server of a number changed
abbrev pub changed_server : (Loaded → Loaded) → Backends → ServerId → Backends × Result (Unit {0}) ParkFault
changed_server change park id =
    if list_any (is_server id) park.servers then (record park { servers = change_server id change park.servers }, Ok tt)
    else (park, Err faults.NoSuchServer)

-- the table with the pool of a number changed
abbrev pub changed_pool : (Pool → Pool) → Backends → PoolId → Backends × Result (Unit {0}) ParkFault
changed_pool change park pool =
    if is_some (slice_get park.pools pool.0) then (record park { pools = change_at change pool.0 park.pools }, Ok tt)
    else (park, Err faults.NoSuchPool)

-- whether a pool can be given a cache: it is there, and a cache number is left
abbrev pub cache_ready_of : Backends → PoolId → Result (Unit {0}) ParkFault
cache_ready_of park pool =
    if is_some (slice_get park.pools pool.0) then (if park.next_cache == 2 ^ 64 then Err faults.NoMoreIds else Ok tt)
    else Err faults.NoSuchPool

-- the table with a new cache in the place of the one that a pool has
abbrev pub attached : Backends → PoolId → Backends × CacheId
attached park pool =
    let cache : CacheId = record { 0 = park.next_cache } in
    (record park { next_cache = park.next_cache + 1; pools = change_at (with_cache (Some cache)) pool.0 park.pools }, cache)

-- the table without the cache of a pool, and which one it was
abbrev pub detached : Backends → PoolId → Backends × Option CacheId
detached park pool = (record park { pools = change_at (with_cache None) pool.0 park.pools }, cache_at park.pools pool.0)

-- the table with the server, or the pool, of a number changed, where it is there
abbrev pub with_server : (Loaded → Loaded) → ServerId → Backends → Backends
with_server change id park = record park { servers = change_server id change park.servers }

abbrev pub with_pool : (Pool → Pool) → PoolId → Backends → Backends
with_pool change pool park = record park { pools = change_at change pool.0 park.pools }

-- whether an edit was refused for lack of memory
abbrev pub lacks : {A : Type 0} → Result A ParkFault → Bool
lacks (Err faults.NoMemory) = true
lacks _ = false

-- what the table keeps true: no more servers and pools than may be, the places of the servers by order, and those of the up servers
-- of each pool
pub record IsPark (servers : List Loaded) (pools : List Pool) (ranks : List ℕ) (ups : List (List ℕ)) : Type 0 where
  pub servers_few : length servers ≤ 256
  pub pools_few : length pools ≤ 64
  pub ranked : StandAt servers ranks (by_order servers)
  pub ups_each : length ups ≡ length pools
  pub up : AreUps servers ups

-- whether a server has a name
abbrev pub has_name : List ℕ → Loaded → Bool
has_name name l = bytes_eq l.server.name name

-- whether a cache has a number
abbrev pub is_cache : CacheId → Option CacheId → Bool
is_cache id None = false
is_cache id (Some cache) = cache.0 == id.0

abbrev pub has_cache : CacheId → Pool → Bool
has_cache id pool = is_cache id pool.cache

-- the cache of a pool, where it has one, has a number that was given
abbrev pub IsGiven : ℕ → Option CacheId → Type 0
IsGiven next None = Unit {0}
IsGiven next (Some cache) = cache.0 < next

-- a server stands in 1 to 8 pools that are there, in each once
pub record StandsIn (count : ℕ) (ids : List PoolId) : Type 0 where
  pub some : 0 < length ids
  pub few : length ids ≤ 8
  pub there : AllByRecursion (λ id. id.0 < count) ids
  pub once : (pool : PoolId) → count_by (same_pool pool) ids ≤ 1

-- what the list of servers keeps true: they are by number, each number once and below the next, no two have one name, there are at
-- most 256, and each stands in pools that are there
pub record AreServers (park : Backends) : Type 0 where
  pub order : ByNumber park.servers
  pub below : AllByRecursion (λ l. l.server.id.0 < park.next) park.servers
  pub once : (name : List ℕ) → count_by (has_name name) park.servers ≤ 1
  pub few : length park.servers ≤ max_servers
  pub stand : AllByRecursion (λ l. StandsIn (length park.pools) l.server.pools) park.servers

-- what the list of pools keeps true: the first is the default pool, no two have one name, there are at most 64, and no two have one
-- cache, whose number is below the next
pub record ArePools (park : Backends) : Type 0 where
  pub first : option_map (λ pool. pool.name) (slice_get park.pools 0) ≡ Some names.Default
  pub once : (name : PoolName) → count_by (is_named name) park.pools ≤ 1
  pub few : length park.pools ≤ max_pools
  pub caches : (id : CacheId) → count_by (has_cache id) park.pools ≤ 1
  pub given : AllByRecursion (λ pool. IsGiven park.next_cache pool.cache) park.pools

-- what the lists of servers and pools keep true
pub record AreBackends (park : Backends) : Type 0 where
  pub servers : AreServers park
  pub pools : ArePools park

-- The servers with their health, the pools with their caches, the outstanding queries and the kept replies of the plain state:
-- what forwarding and replies read and change.
use Rattle.std.specs.Prelude.{◌≡◌, ℕ, ◌<◌, Bool, true, false, not, ◌==◌, List, [], ◌∷◌, ◌++◌, length, map, if◌then◌else◌}
use Rattle.std.specs.List.{count_by, filter, AllByRecursion}
use Rattle.std.specs.Int.NonZero.{non_zero_u8_get}
use Rattle.lb_name.specs.Name.{lower_name}
use Rattle.lb_wire.specs.Query.{Reads}
use Rattle.lb_wire.specs.declared.ids.CacheId.{CacheId}
use Rattle.lb_wire.specs.declared.key.Key.{Key}
use Rattle.lb_wire.specs.declared.ids.PoolId.{PoolId}
use Rattle.lb_wire.specs.declared.ids.ServerId.{ServerId}
use Rattle.lb_wire.specs.declared.transport.Kind.{Kind}
use Rattle.lb_wire.specs.declared.transport.Lane.{Lane}
use Rattle.lb_wire.specs.declared.query.QueryView.{QueryView}
use Rattle.std.specs.Prelude.{Option, Result, Ok, Err, Some, None}
use Rattle.lb_servers.specs.declared.pool.Policy.{Policy}
use Rattle.lb_servers.specs.declared.pool.Policy.TheVariants.{FirstAvailable, LeastOutstanding, RoundRobin}
use Rattle.lb_servers.specs.declared.pool.Pool.{Pool}
use Rattle.lb_servers.specs.declared.server.Server.{Server}
use Rattle.lb_servers.specs.declared.fault.ParkFault.{ParkFault}
use Rattle.lb_servers.specs.declared.server.Loaded.{Loaded}
use Rattle.lb_servers.specs.declared.server.Mode.{Mode}
use Rattle.lb_servers.specs.declared.spec.ServerSpec.{ServerSpec}
use Rattle.lb_servers.specs.declared.fault.ParkFault.TheVariants as park_faults
use Rattle.lb_servers.specs.Park.{Backends, added_server, attached, cache_ready_of, changed_server, detached, no_backends, removed_server}
use Rattle.lb_servers.specs.Pick.{picked}
use Rattle.lb_servers.specs.Pool.{cache_at, change_at, turned}
use Rattle.lb_servers.specs.Server.{lanes_of, marked, with_mode}
use Rattle.lb_health.specs.Health.{new_standing}
use Rattle.lb_table.specs.declared.place.Place.{Place}
use Rattle.lb_table.specs.declared.entry.Entry.{Entry}
use Rattle.lb_table.specs.declared.entry.Waiting.{Waiting}
use Rattle.lb_table.specs.declared.fault.EnterFault.{EnterFault}
use Rattle.lb_table.specs.declared.fault.EnterFault.TheVariants.{LaneFull, NoMemory}
use Rattle.lb_table.specs.Place.{at_place}
use Rattle.lb_table.specs.Table.{FirstFree, FirstLane, entered, is_for}
use Rattle.lb_cache.specs.Caches.{CacheLists, expunged_in, name_of_key, with_cache, without_cache, without_old}
use Rattle.lb_cache.specs.declared.cached.AttachedCache.{AttachedCache}
use Rattle.lb_cache.specs.declared.cached.KeptReply.{KeptReply}
use Rattle.lb_step.specs.declared.answer.Totals.{Totals}
use Rattle.lb_cache.specs.declared.cached.Covered.{Covered}
use Rattle.lb_step.specs.declared.check.Check.{Check}
use Rattle.lb_step.specs.declared.check.CheckSpec.{CheckSpec}

-- how long a query waits, in milliseconds; the next server and cache numbers (2^64 once all are given); the servers, their health checks
-- the pools and the attached caches, by number; the outstanding queries by deadline, those of one deadline in the order in
-- which they were sent; and the kept replies by cache, then key
pub record Upstreams : Type 0 where
  pub timeout : ℕ
  pub next_server : ℕ
  pub next_cache : ℕ
  pub servers : List Server
  pub checks : List Check
  pub pools : List Pool
  pub caches : List AttachedCache
  pub outstanding : List Waiting
  pub kept : List KeptReply

-- how long a query waits at first
abbrev pub first_timeout : ℕ
first_timeout = 2000

-- at first: no server, and the default pool
abbrev pub no_upstreams : Upstreams
no_upstreams = record { timeout = first_timeout; next_server = no_backends.next; next_cache = no_backends.next_cache; servers = []; checks = []; pools = no_backends.pools; caches = []; outstanding = []; kept = [] }

-- the caches of what stands upstream with what they keep, and others in their place
abbrev pub caches_of : Upstreams → CacheLists
caches_of ups = record { caches = ups.caches; kept = ups.kept }

abbrev pub with_caches : CacheLists → Upstreams → Upstreams
with_caches lists ups = record ups { caches = lists.caches; kept = lists.kept }

-- a server with its load: how many of the outstanding queries wait for it, by whatever lane, counted anew
abbrev pub loaded_by : List Waiting → Server → Loaded
loaded_by outstanding server = record { server = server; outstanding = count_by (is_for server.id) outstanding }

abbrev pub server_of : Loaded → Server
server_of l = l.server

-- the table of servers and pools, each server with its load
abbrev pub backends_of : Upstreams → Backends
backends_of ups = record { next = ups.next_server; next_cache = ups.next_cache; servers = map (loaded_by ups.outstanding) ups.servers; pools = ups.pools }

-- another table of servers and pools in place of the one that is there
abbrev pub with_backends : Backends → Upstreams → Upstreams
with_backends park ups = record ups { next_server = park.next; next_cache = park.next_cache; servers = map server_of park.servers; pools = park.pools }

-- what an edit of the table of servers and pools leaves and gives
abbrev pub on_backends : {A : Type 0} → Upstreams → Backends × A → Upstreams × A
on_backends ups done = (with_backends done.0 ups, done.1)

-- whether this is the health check of a server
abbrev pub is_check : ServerId → Check → Bool
is_check server check = check.server.0 == server.0

-- the health check of a new server, which is up
abbrev pub new_check : ServerId → CheckSpec → Check
new_check server spec = record {
  server = server;
  health = new_standing (non_zero_u8_get spec.fall) (non_zero_u8_get spec.rise);
  must_resolve = spec.must_resolve;
}

-- what stands upstream with the health check of a server that was added, and without that of one that was removed; where
-- that was refused, it is as it was
abbrev pub with_check : CheckSpec → Result ServerId ParkFault → Upstreams → Upstreams
with_check spec (Ok server) ups = record ups { checks = ups.checks ++ new_check server spec ∷ [] }
with_check spec (Err fault) ups = ups

abbrev pub without_check : ServerId → Result (Unit {0}) ParkFault → Upstreams → Upstreams
without_check server (Ok done) ups = record ups { checks = filter (λ check. not (is_check server check)) ups.checks }
without_check server (Err fault) ups = ups

-- a server and its health check added after the others
abbrev pub checked_by : CheckSpec → Upstreams × Result ServerId ParkFault → Upstreams × Result ServerId ParkFault
checked_by spec done = (with_check spec done.1 done.0, done.1)

abbrev pub added_checked : Bool → Upstreams → ServerSpec → CheckSpec → Upstreams × Result ServerId ParkFault
added_checked lacking ups spec check = checked_by check (on_backends ups (added_server lacking (backends_of ups) spec))

-- a server and its health check taken out
abbrev pub unchecked_by : ServerId → Upstreams × Result (Unit {0}) ParkFault → Upstreams × Result (Unit {0}) ParkFault
unchecked_by server done = (without_check server done.1 done.0, done.1)

abbrev pub removed_checked : Upstreams → ServerId → Upstreams × Result (Unit {0}) ParkFault
removed_checked ups server = unchecked_by server (on_backends ups (removed_server (backends_of ups) server))

-- a server put into a mode; its health stays
abbrev pub put_into : Mode → Upstreams → ServerId → Upstreams × Result (Unit {0}) ParkFault
put_into mode ups server = on_backends ups (changed_server (with_mode mode) (backends_of ups) server)

-- a server marked up or down
abbrev pub with_mark : Bool → ServerId → Upstreams → Upstreams
with_mark up server ups = (on_backends ups (changed_server (marked up) (backends_of ups) server)).0

-- a new cache in the place of the one that a pool has, with what that one keeps
abbrev pub replaced_cache : Upstreams → PoolId → ℕ → ℕ → List ℕ → Upstreams × Result CacheId ParkFault
replaced_cache ups pool max max_ttl skips =
    let done = on_backends ups (attached (backends_of ups) pool) in
    (with_caches (with_cache (record { id = done.1; max = max; max_ttl = max_ttl; skips = skips }) (without_old (cache_at ups.pools pool.0) (caches_of ups))) done.0, Ok done.1)

-- the same where the pool can be given one, unless memory is lacking
abbrev pub attached_if : Bool → Upstreams → PoolId → ℕ → ℕ → List ℕ → Result (Unit {0}) ParkFault → Upstreams × Result CacheId ParkFault
attached_if lacking ups pool max max_ttl skips (Err fault) = (ups, Err fault)
attached_if lacking ups pool max max_ttl skips (Ok ready) = if lacking then (ups, Err park_faults.NoMemory) else replaced_cache ups pool max max_ttl skips

-- a cache attached to a pool
abbrev pub attached_cache : Bool → Upstreams → PoolId → ℕ → ℕ → List ℕ → Upstreams × Result CacheId ParkFault
attached_cache lacking ups pool max max_ttl skips = attached_if lacking ups pool max max_ttl skips (cache_ready_of (backends_of ups) pool)

-- the cache of a pool taken off it, with what it keeps
abbrev pub detached_if : Upstreams → PoolId → Option CacheId → Upstreams × Option CacheId
detached_if ups pool None = (ups, None)
detached_if ups pool (Some id) = (with_caches (without_cache id (caches_of ups)) (on_backends ups (detached (backends_of ups) pool)).0, Some id)

abbrev pub detached_cache : Upstreams → PoolId → Upstreams × Option CacheId
detached_cache ups pool = detached_if ups pool (cache_at ups.pools pool.0)

-- a cache expunged
abbrev pub expunged_cache : Upstreams → CacheId → Covered → Upstreams × ℕ
expunged_cache ups id covered = let done = expunged_in id covered (caches_of ups) in (with_caches done.0 ups, done.1)

-- how much there is of each part, the rules being so many
abbrev pub totals_of : ℕ → Upstreams → Totals
totals_of rules ups = record {
  rules = rules;
  servers = length ups.servers;
  pools = length ups.pools;
  caches = length ups.caches;
  outstanding = length ups.outstanding;
  kept = length ups.kept;
}

-- the server that a pool picks
abbrev pub picked_of : Upstreams → PoolId → Option ServerId
picked_of ups pool = picked (backends_of ups).servers ups.pools pool

-- how many lanes of each transport a server has; one that is not there has none
abbrev pub lanes_to : Upstreams → ServerId → ℕ
lanes_to ups server = lanes_of (backends_of ups).servers server

-- the lane and the ID of a query to a server: of the server's lanes of its transport the first from the
-- word's on that has a free ID, and the first free ID there at or after the word; None if each is full
abbrev pub FirstPlace : Upstreams → ServerId → Kind → ℕ → Option (Lane × ℕ) → Type 0
FirstPlace ups server kind word None = FirstLane ups.outstanding server kind (lanes_to ups server) word None
FirstPlace ups server kind word (Some (lane, id)) =
    FirstLane ups.outstanding server kind (lanes_to ups server) word (Some lane) × FirstFree ups.outstanding server lane word (Some id)

-- whether a pool of this policy takes turns
abbrev pub takes_turns : Option Policy → Bool
takes_turns None = false
takes_turns (Some FirstAvailable) = false
takes_turns (Some LeastOutstanding) = false
takes_turns (Some RoundRobin) = true

-- a pool after a query that it sent: the turn of roundrobin goes up
abbrev pub turned_if : Pool → Pool
turned_if pool = if takes_turns (Some pool.policy) then turned pool else pool

abbrev pub with_turn : PoolId → Upstreams → Upstreams
with_turn pool ups = record ups { pools = change_at turned_if pool.0 ups.pools }

-- a query entered at a place
abbrev pub with_entry : Place → Entry → Upstreams → Upstreams
with_entry place entry ups = record ups { outstanding = entered ups.outstanding place entry }

-- a query sent by a pool to a server: its turn is counted, and the query is entered by the first lane
-- that has a free ID, under the first free one there; or each lane is full, and the turn is counted
-- alone; or memory is lacking, and nothing changes
abbrev pub SendsBy : Upstreams → PoolId → ServerId → Kind → ℕ → Entry → Result (Lane × ℕ) EnterFault → Upstreams → Type 0
SendsBy old pool server kind word entry (Ok (lane, id)) new =
    FirstPlace old server kind word (Some (lane, id)) × (new ≡ with_entry (at_place server lane id) entry (with_turn pool old))
SendsBy old pool server kind word entry (Err LaneFull) new = FirstPlace old server kind word None × (new ≡ with_turn pool old)
SendsBy old pool server kind word entry (Err NoMemory) new = new ≡ old

-- the key under which a reply may be kept has the question name of the query
abbrev pub IsKeyFor : Entry → Option (CacheId × Key) → Type 0
IsKeyFor entry None = Unit {0}
IsKeyFor entry (Some ask) = name_of_key ask.1 ≡ lower_name entry.name

-- an entry's octets are a query that reads, and its key is of its question
pub record IsAsked (entry : Entry) : Type 0 where
  pub view : QueryView
  pub reads : Reads entry.asked (Ok view)
  pub key : IsKeyFor entry entry.cache

-- what ties the table of servers to the outstanding queries: each server's count is that of the queries that wait for it;
-- each server has a number that was given, and each query waits for such a server; and each is a query that reads
pub record IsTied (park : Backends) (outstanding : List Waiting) : Type 0 where
  pub loads : AllByRecursion (λ l. l.outstanding ≡ count_by (is_for l.server.id) outstanding) park.servers
  pub given : AllByRecursion (λ l. l.server.id.0 < park.next) park.servers
  pub sent : AllByRecursion (λ w. w.place.server.0 < park.next) outstanding
  pub asked : AllByRecursion (λ w. IsAsked w.entry) outstanding

-- each server has one health check, in the order of the servers, with its number; and its mark is what its health says
abbrev pub IsChecked : List Server → List Check → Type 0
IsChecked [] [] = Unit {0}
IsChecked (s ∷ ss) (c ∷ cs) = (c.server ≡ s.id) × (c.health.up ≡ s.marked_up) × IsChecked ss cs
IsChecked [] (c ∷ cs) = ⊥
IsChecked (s ∷ ss) [] = ⊥

-- the servers stand by number, each number once
abbrev pub ByNumber : List Server → Type 0
ByNumber [] = Unit {0}
ByNumber (s ∷ ss) = AllByRecursion (λ o. s.id.0 < o.id.0) ss × ByNumber ss

-- what ties the servers to their health checks and to the outstanding queries
pub record IsUpstream (park : Backends) (checks : List Check) (outstanding : List Waiting) : Type 0 where
  pub tied : IsTied park outstanding
  pub by_number : ByNumber (map server_of park.servers)
  pub checked : IsChecked (map server_of park.servers) checks

-- each attached cache has a number that was given, as the next one tells
abbrev pub AreNumbered : ℕ → List AttachedCache → Type 0
AreNumbered next caches = AllByRecursion (λ cache. cache.id.0 < next) caches

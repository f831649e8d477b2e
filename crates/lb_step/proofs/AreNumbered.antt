-- Each attached cache keeps a number that was given, through each change of the table of servers and pools and of the caches.
use Rattle.std.proofs.Common.{◌≡◌, ℕ, ◌+◌, ◌<◌, ◌^◌, ◌==◌, Bool, not, List, [], ◌∷◌, ◌++◌, length, Option, Some, None, Result, Ok, Err, sym, ap, subst, arith, nat_le}
use Rattle.std.specs.Prelude.{is_some, slice_get}
use Rattle.std.specs.List.{filter, list_any}
use Rattle.lb_wire.specs.declared.ids.CacheId.{CacheId}
use Rattle.lb_wire.specs.declared.ids.PoolId.{PoolId}
use Rattle.lb_wire.specs.declared.ids.ServerId.{ServerId}
use Rattle.lb_servers.specs.declared.fault.ParkFault.{ParkFault}
use Rattle.lb_servers.specs.declared.fault.ParkFault.TheVariants as faults
use Rattle.lb_servers.specs.declared.pool.Pool.{Pool}
use Rattle.lb_servers.specs.declared.pool.PoolName.{PoolName}
use Rattle.lb_servers.specs.declared.server.Loaded.{Loaded}
use Rattle.lb_servers.specs.declared.spec.ServerSpec.{ServerSpec}
use Rattle.lb_servers.specs.Park.{Backends, added_pool, added_server, attached, changed_pool, changed_server, detached, lacks, max_pools, max_servers, removed_server}
use Rattle.lb_servers.specs.Pool.{change_at, is_named, new_pool}
use Rattle.lb_servers.specs.Server.{change_server, is_server, server_named}
use Rattle.lb_servers.specs.Spec.{lacks_pool, new_server, stated_pools}
use Rattle.lb_cache.specs.declared.cached.AttachedCache.{AttachedCache}
use Rattle.lb_cache.specs.Caches.{CacheLists, has_id, with_cache, without_cache, without_old}
use Rattle.lb_step.specs.Upstream.{AreNumbered}
use Rattle.lb_step.proofs.ChecksKeep.{one_of}
use Rattle.lb_step.proofs.Each.{each_append, each_filter, each_weaker}
use Rattle.lb_step.proofs.Tied.{left_by}

module _ (caches : List AttachedCache) where
  -- where the next number stays
  pub numbers_still : (park after : Backends) → after.next_cache ≡ park.next_cache → AreNumbered park.next_cache caches → AreNumbered after.next_cache caches
  numbers_still park after is all = subst (λ (next : ℕ). AreNumbered next caches) (sym is) all

  -- what an edit of the table leaves goes with these caches
  abbrev Numbered : {A : Type 0} → Backends × A → Type 0
  Numbered {A} done = AreNumbered done.0.next_cache caches

  pub pool_numbers : (lacking : Bool) (park : Backends) (name : PoolName) → AreNumbered park.next_cache caches → AreNumbered (added_pool lacking park name).0.next_cache caches
  pool_numbers lacking park name all =
      one_of {X = Backends × Result PoolId ParkFault} Numbered (list_any (is_named name) park.pools) (park, Err faults.NameTaken) _ all
      (one_of {X = Backends × Result PoolId ParkFault} Numbered (nat_le max_pools (length park.pools)) (park, Err faults.TooMany) _ all
      (one_of {X = Backends × Result PoolId ParkFault} Numbered lacking (park, Err faults.NoMemory) (record park { pools = park.pools ++ new_pool name ∷ [] }, Ok (record { 0 = length park.pools })) all all))

  pub policy_numbers : (change : Pool → Pool) (park : Backends) (pool : PoolId) → AreNumbered park.next_cache caches → AreNumbered (changed_pool change park pool).0.next_cache caches
  policy_numbers change park pool all =
      one_of {X = Backends × Result (Unit {0}) ParkFault} Numbered (is_some (slice_get park.pools pool.0)) (record park { pools = change_at change pool.0 park.pools }, Ok tt) (park, Err faults.NoSuchPool) all all

  pub changed_numbers : (change : Loaded → Loaded) (park : Backends) (id : ServerId) → AreNumbered park.next_cache caches → AreNumbered (changed_server change park id).0.next_cache caches
  changed_numbers change park id all =
      one_of {X = Backends × Result (Unit {0}) ParkFault} Numbered (list_any (is_server id) park.servers) (record park { servers = change_server id change park.servers }, Ok tt) (park, Err faults.NoSuchServer) all all

  pub added_numbers : (park new : Backends) (spec : ServerSpec) (given : Result ServerId ParkFault) → (new, given) ≡ added_server (lacks given) park spec → AreNumbered park.next_cache caches → AreNumbered new.next_cache caches
  added_numbers park new spec given done all =
      subst Numbered (sym done)
      (one_of {X = Backends × Result ServerId ParkFault} Numbered (lacks_pool park.pools (stated_pools spec.pools)) (park, Err faults.NoSuchPool) _ all
      (one_of {X = Backends × Result ServerId ParkFault} Numbered (is_some (server_named park.servers spec.name)) (park, Err faults.NameTaken) _ all
      (one_of {X = Backends × Result ServerId ParkFault} Numbered (nat_le max_servers (length park.servers)) (park, Err faults.TooMany) _ all
      (one_of {X = Backends × Result ServerId ParkFault} Numbered (park.next == 2 ^ 64) (park, Err faults.NoMoreIds) _ all
      (one_of {X = Backends × Result ServerId ParkFault} Numbered (lacks given) (park, Err faults.NoMemory)
      (record park { next = park.next + 1; servers = park.servers ++ new_server park.next park.pools spec ∷ [] }, Ok (record { 0 = park.next })) all all)))))

  pub removed_numbers : (park new : Backends) (id : ServerId) (given : Result (Unit {0}) ParkFault) → (new, given) ≡ removed_server park id → AreNumbered park.next_cache caches → AreNumbered new.next_cache caches
  removed_numbers park new id given done all =
      subst Numbered (sym done)
      (one_of {X = Backends × Result (Unit {0}) ParkFault} Numbered (list_any (is_server id) park.servers) (record park { servers = filter (λ l. not (is_server id l)) park.servers }, Ok tt) (park, Err faults.NoSuchServer) all all)

-- the caches without one, and with a new one in the place of an old one
pub detached_numbers : (lists : CacheLists) (park new : Backends) (pool : PoolId) (given : Option CacheId) (id : CacheId) → (new, given) ≡ detached park pool → AreNumbered park.next_cache lists.caches →
    AreNumbered new.next_cache (without_cache id lists).caches
detached_numbers lists park new pool given id done all =
    numbers_still (without_cache id lists).caches park new (ap (λ (p : Backends). p.next_cache) (left_by new given _ done))
    (each_filter (λ cache. cache.id.0 < park.next_cache) (λ cache. not (has_id id cache)) lists.caches all)

left_numbers : (next : ℕ) (old : Option CacheId) (lists : CacheLists) → AreNumbered next lists.caches → AreNumbered next (without_old old lists).caches
left_numbers next None lists all = all
left_numbers next (Some id) lists all = each_filter (λ cache. cache.id.0 < next) (λ cache. not (has_id id cache)) lists.caches all

pub attached_numbers : (lists new_lists : CacheLists) (park new : Backends) (pool : PoolId) (given : CacheId) (old : Option CacheId) (cache : AttachedCache) → (new, given) ≡ attached park pool → cache.id.0 ≡ park.next_cache →
    new_lists ≡ with_cache cache (without_old old lists) → AreNumbered park.next_cache lists.caches → AreNumbered new.next_cache new_lists.caches
attached_numbers lists new_lists park new pool given old cache done number is all =
    let others : List AttachedCache = (without_old old lists).caches in
    let more : AreNumbered (park.next_cache + 1) (others ++ cache ∷ []) =
    each_append (λ c. c.id.0 < park.next_cache + 1) others (cache ∷ [])
    (each_weaker (λ c. c.id.0 < park.next_cache) (λ c. c.id.0 < park.next_cache + 1) others (λ c lt. omega (arith, lt)) (left_numbers park.next_cache old lists all)) (omega (arith, number), tt) in
    subst (λ (next : ℕ). AreNumbered next new_lists.caches) (sym (ap (λ (p : Backends). p.next_cache) (left_by new given _ done)))
    (subst (λ (l : CacheLists). AreNumbered (park.next_cache + 1) l.caches) (sym is) more)

-- A cache attached to a pool, or taken off it, beside the table of servers.
use Rattle.std.proofs.Common.{◌≡◌, ℕ, ◌^◌, ◌==◌, Bool, true, false, IsTrue, List, Option, Some, Result, Ok, Err, refl, sym, ◌∙◌, ap}
use Rattle.std.specs.Prelude.{if◌then◌else◌, is_some, slice_get}
use Rattle.lb_wire.specs.declared.ids.CacheId.{CacheId}
use Rattle.lb_wire.specs.declared.ids.PoolId.{PoolId}
use Rattle.lb_servers.specs.declared.fault.ParkFault.{ParkFault}
use Rattle.lb_servers.specs.declared.fault.ParkFault.TheVariants as faults
use Rattle.lb_servers.specs.Park.{Backends, attached, cache_ready_of, detached, lacks}
use Rattle.lb_servers.specs.Pool.{cache_at}
use Rattle.lb_cache.specs.declared.cached.AttachedCache.{AttachedCache}
use Rattle.lb_cache.specs.Cache.{Caching, empty_cache}
use Rattle.lb_cache.specs.Caches.{CacheLists, with_cache, without_cache, without_old}
use Rattle.lb_table.specs.declared.entry.Waiting.{Waiting}
use Rattle.lb_step.specs.declared.answer.Answer.TheVariants.{Refused}
use Rattle.lb_step.specs.declared.answer.EditFault.TheVariants.{Servers}
use Rattle.lb_step.specs.declared.answer.Note.TheVariants.{CacheAttached}
use Rattle.lb_step.specs.declared.check.Check.{Check}
use Rattle.lb_step.specs.Answer.{marked}
use Rattle.lb_step.specs.Edit.{Lacks, attached_to, servers_told}
use Rattle.lb_step.specs.Upstream.{IsTied, Upstreams, attached_cache, attached_if, backends_of, detached_cache, detached_if, with_caches}
use Rattle.lb_step.proofs.ChainEdits.{false_true}
use Rattle.lb_step.proofs.Tied.{counted_tied, on_tied, seen_as}

-- the cache of a pool that was taken off it
pub detached_seen : (timeout : ℕ) (caches lists : CacheLists) (checks : List Check) (park new : Backends) (t : List Waiting) (pool : PoolId) (id : CacheId) (given : Option CacheId) → IsTied park t →
    (new, given) ≡ detached park pool → Some id ≡ cache_at park.pools pool.0 → lists ≡ without_cache id caches →
    (seen_as timeout lists checks new t, Some id) ≡ detached_cache (seen_as timeout caches checks park t) pool
detached_seen timeout caches lists checks park new t pool id given tied is at left =
    let ups = seen_as timeout caches checks park t in
    ap (λ (l : CacheLists). (seen_as timeout l checks new t, Some id)) left
    ∙ ap (λ (d : Upstreams × Option CacheId). (with_caches (without_cache id caches) d.0, Some id)) (on_tied ups park new given (λ p. detached p pool) (counted_tied timeout caches checks park t tied) is)
    ∙ ap (detached_if ups pool) at

-- a cache that was attached to a pool
pub attached_seen : (timeout : ℕ) (caches lists : CacheLists) (checks : List Check) (park new : Backends) (t : List Waiting) (pool : PoolId) (max shards max_ttl : ℕ) (skips : List ℕ) (number : ℕ) (cache : Caching) (old : Option CacheId) (given : CacheId) →
    IsTied park t → (new, given) ≡ attached park pool → cache_ready_of park pool ≡ Ok tt → old ≡ cache_at park.pools pool.0 → number ≡ park.next_cache → cache ≡ empty_cache max shards max_ttl skips →
    lists ≡ with_cache (record { id = record { 0 = number }; max = cache.max; max_ttl = cache.max_ttl; skips = cache.skips }) (without_old old caches) →
    (seen_as timeout lists checks new t, Ok given) ≡ attached_cache false (seen_as timeout caches checks park t) pool max max_ttl skips
attached_seen timeout caches lists checks park new t pool max shards max_ttl skips number cache old given tied is ready had next empty left =
    let ups = seen_as timeout caches checks park t in
    let seen = counted_tied timeout caches checks park t tied in
    let own : CacheId → AttachedCache = λ id. record { id = id; max = max; max_ttl = max_ttl; skips = skips } in
    let numbered : (record { 0 = number }) ≡ given = ap (λ (n : ℕ). record { 0 = n }) next ∙ sym (ap (λ (d : Backends × CacheId). d.1) is) in
    let lists_are : lists ≡ with_cache (own given) (without_old (cache_at park.pools pool.0) caches) =
    left
    ∙ ap (λ (c : Caching). with_cache (record { id = record { 0 = number }; max = c.max; max_ttl = c.max_ttl; skips = c.skips }) (without_old old caches)) empty
    ∙ ap (λ (id : CacheId). with_cache (own id) (without_old old caches)) numbered
    ∙ ap (λ (o : Option CacheId). with_cache (own given) (without_old o caches)) had in
    ap (λ (l : CacheLists). (seen_as timeout l checks new t, Ok given)) lists_are
    ∙ ap (λ (d : Upstreams × CacheId). (with_caches (with_cache (own d.1) (without_old (cache_at park.pools pool.0) caches)) d.0, Ok d.1)) (on_tied ups park new given (λ p. attached p pool) seen is)
    ∙ ap (attached_if false ups pool max max_ttl skips) (sym (ap (λ (p : Backends). cache_ready_of p pool) seen ∙ ready))

-- what was told, without the number
abbrev as_unit : {A : Type 0} → Result A ParkFault → Result (Unit {0}) ParkFault
as_unit (Ok a) = Ok tt
as_unit (Err fault) = Err fault

-- that a pool can be given a cache is no question of memory
plain_if : (b : Bool) (x y : Result (Unit {0}) ParkFault) → lacks x ≡ false → lacks y ≡ false → lacks (if b then x else y) ≡ false
plain_if true x y first second = first
plain_if false x y first second = second

plain_ready : (park : Backends) (pool : PoolId) → lacks (cache_ready_of park pool) ≡ false
plain_ready park pool =
    plain_if (is_some (slice_get park.pools pool.0)) (if park.next_cache == 2 ^ 64 then Err faults.NoMoreIds else Ok tt) (Err faults.NoSuchPool)
    (plain_if (park.next_cache == 2 ^ 64) (Err faults.NoMoreIds) (Ok tt) refl refl) refl

-- one that lacked memory: no other refusal meets it
lacked : (ups : Upstreams) (pool : PoolId) (max max_ttl : ℕ) (skips : List ℕ) (ready : Result (Unit {0}) ParkFault) → lacks ready ≡ false →
    (attached_if true ups pool max max_ttl skips ready).1 ≡ Err faults.NoMemory → (id : CacheId) × ((attached_if false ups pool max max_ttl skips ready).1 ≡ Ok id)
lacked ups pool max max_ttl skips (Ok done) plain is = (record { 0 = ups.next_cache }, refl)
lacked ups pool max max_ttl skips (Err fault) plain is =
    absurd (false_true (sym plain ∙ ap (λ (r : Result CacheId ParkFault). lacks (as_unit r)) is))

pub may_attach : (ups new : Upstreams) (max max_ttl : ℕ) (skips : List ℕ) (found : Option PoolId) (pool : PoolId) (fault : ParkFault) → Some pool ≡ found →
    (new, Err fault) ≡ attached_cache (lacks {A = CacheId} (Err fault)) ups pool max max_ttl skips → IsTrue (marked (Refused (Servers fault))) → Lacks (λ mark. attached_to mark ups max max_ttl skips found)
may_attach ups new max max_ttl skips found pool faults.NoMemory there is mark =
    let done = lacked ups pool max max_ttl skips (cache_ready_of (backends_of ups) pool) (plain_ready (backends_of ups) pool) (sym (ap (λ (d : Upstreams × Result CacheId ParkFault). d.1) is)) in
    (CacheAttached done.0, ap (λ (f : Option PoolId). (attached_to false ups max max_ttl skips f).1) (sym there) ∙ ap (servers_told CacheAttached) done.1)
may_attach ups new max max_ttl skips found pool faults.NoSuchServer there is mark = absurd (false_true mark)
may_attach ups new max max_ttl skips found pool faults.NoSuchPool there is mark = absurd (false_true mark)
may_attach ups new max max_ttl skips found pool faults.NameTaken there is mark = absurd (false_true mark)
may_attach ups new max max_ttl skips found pool faults.TooMany there is mark = absurd (false_true mark)
may_attach ups new max max_ttl skips found pool faults.NoMoreIds there is mark = absurd (false_true mark)

-- Pools: their names and their turns.
use Rattle.std.specs.Prelude.{ℕ, zero, suc, ◌+◌, ◌%◌, ◌^◌, Bool, true, false, ◌==◌, List, [], ◌∷◌, Option, None, Some, option_map, bytes_eq, slice_get}
use Rattle.std.specs.List.{position}
use Rattle.lb_wire.specs.declared.ids.CacheId.{CacheId}
use Rattle.lb_wire.specs.declared.ids.PoolId.{PoolId}
use Rattle.lb_servers.specs.declared.pool.PoolName.{PoolName}
use Rattle.lb_servers.specs.declared.pool.PoolName.TheVariants.{Default, Named}
use Rattle.lb_servers.specs.declared.pool.Policy.{Policy}
use Rattle.lb_servers.specs.declared.pool.Policy.TheVariants.{LeastOutstanding}
use Rattle.lb_servers.specs.declared.pool.Pool.{Pool}

-- whether two names are the same
abbrev pub same_name : PoolName → PoolName → Bool
same_name Default Default = true
same_name Default (Named b) = false
same_name (Named a) Default = false
same_name (Named a) (Named b) = bytes_eq a b

-- whether a pool has a name
abbrev pub is_named : PoolName → Pool → Bool
is_named name pool = same_name pool.name name

-- the number of the pool with a name: its place among the pools
abbrev pub pool_named : List Pool → PoolName → Option PoolId
pool_named pools name = option_map (λ at. record { 0 = at }) (position (is_named name) pools)

-- whether two numbers are of the same pool
abbrev pub same_pool : PoolId → PoolId → Bool
same_pool a b = a.0 == b.0

-- a new pool: its policy is leastOutstanding, and it has no cache
abbrev pub new_pool : PoolName → Pool
new_pool name = record { name = name; policy = LeastOutstanding; turn = 0; cache = None }

-- the pool with its turn gone up by one; 2^64 - 1 is followed by 0
abbrev pub turned : Pool → Pool
turned pool = record pool { turn = (pool.turn + 1) % 2 ^ 64 }

-- the pool with another policy; its turn stays
abbrev pub with_policy : Policy → Pool → Pool
with_policy policy pool = record pool { policy = policy }

-- the pool with another cache, or none
abbrev pub with_cache : Option CacheId → Pool → Pool
with_cache cache pool = record pool { cache = cache }

-- the cache of a pool, where it is there and has one
abbrev pub cache_in : Option Pool → Option CacheId
cache_in None = None
cache_in (Some pool) = pool.cache

abbrev pub cache_at : List Pool → ℕ → Option CacheId
cache_at pools at = cache_in (slice_get pools at)

-- the pools with the one at a place changed, where one stands there
abbrev pub change_at : (Pool → Pool) → ℕ → List Pool → List Pool
change_at change at [] = []
change_at change zero (pool ∷ pools) = change pool ∷ pools
change_at change (suc at) (pool ∷ pools) = pool ∷ change_at change at pools

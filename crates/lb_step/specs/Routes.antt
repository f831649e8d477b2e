-- What decides where a query goes, and which cache it asks: the rules with their passes, the pools by name, and their caches.
-- No server, no outstanding query and no kept reply has a part in it.
use Rattle.std.specs.Prelude.{◌≡◌, ℕ, zero, suc, ◌+◌, max, Bool, true, false, not, ◌||◌, List, [], ◌∷◌, ◌++◌, map, Option, None, Some, option_map, Ok, slice_get}
use Rattle.std.specs.List.{filter, position}
use Rattle.lb_wire.specs.Query.{view_of}
use Rattle.lb_wire.specs.declared.ids.CacheId.{CacheId}
use Rattle.lb_wire.specs.declared.ids.PoolId.{PoolId}
use Rattle.lb_wire.specs.declared.query.QueryView.{QueryView}
use Rattle.lb_chain.specs.declared.numbered.Numbered.{Numbered}
use Rattle.lb_chain.specs.declared.rule.Rule.{Rule}
use Rattle.lb_chain.specs.Edits.{Rules, added, removed, moved}
use Rattle.lb_chain.specs.Walk.{walk_of}
use Rattle.lb_chain.specs.Counting.{counted}
use Rattle.lb_chain.specs.Seen.{seen_rules}
use Rattle.lb_servers.specs.declared.pool.Pool.{Pool}
use Rattle.lb_servers.specs.declared.pool.PoolName.{PoolName}
use Rattle.lb_servers.specs.Pool.{cache_at, pool_named, same_name}
use Rattle.lb_step.specs.declared.asked.Asked.{Asked}
use Rattle.lb_step.specs.declared.event.Event.{Event}
use Rattle.lb_step.specs.declared.event.Event.TheVariants.{Query, Edit}
use Rattle.lb_step.specs.declared.command.Command.{Command}
use Rattle.lb_step.specs.declared.command.Command.TheVariants.{RuleAdd, RuleRemove, RuleMove, PoolAdd, CacheAttach, CacheDetach}
use Rattle.lb_cache.specs.declared.cached.AttachedCache.{AttachedCache}
use Rattle.lb_step.specs.declared.answer.Answer.{Answer}
use Rattle.lb_step.specs.declared.answer.Answer.TheVariants.{Edited}
use Rattle.lb_cache.specs.Caches.{has_id}
use Rattle.lb_step.specs.Plain.{Plain}
use Rattle.lb_step.specs.Query.{is_transfer}
use Rattle.lb_step.specs.Edit.{place_or_end, rule_by}
use Rattle.lb_step.specs.Answer.{marked}
use Rattle.lb_step.specs.Reading.{Reading, OfQuery, moment_of}

-- a pool, as routes see it: its name and its cache
pub record RoutePool : Type 0 where
  pub name : PoolName
  pub cache : Option CacheId

-- the latest moment told, the next rule and cache numbers, the rules in their order with the passes that count, and the
-- pools and the attached caches by number
pub record Routes : Type 0 where
  pub moment : ℕ
  pub next_rule : ℕ
  pub next_cache : ℕ
  pub rules : List Numbered
  pub pools : List RoutePool
  pub caches : List AttachedCache

abbrev pub route_of : Pool → RoutePool
route_of pool = record { name = pool.name; cache = pool.cache }

-- the routes of a plain state
abbrev pub routes_of : Plain → Routes
routes_of plain = record { moment = plain.moment; next_rule = plain.next_rule; next_cache = plain.next_cache; rules = plain.rules; pools = map route_of plain.pools; caches = plain.caches }

-- the moment is the later of an event's and the last one
abbrev pub at_routes : ℕ → Routes → Routes
at_routes now routes = record routes { moment = max routes.moment now; rules = seen_rules (max routes.moment now) routes.rules }

-- the rules of routes as a chain, and another one in its place
abbrev pub chain_in : Routes → Rules
chain_in routes = record { next = routes.next_rule; moment = routes.moment; rules = routes.rules }

abbrev pub with_rules : Rules → Routes → Routes
with_rules chain routes = record routes { next_rule = chain.next; rules = seen_rules routes.moment chain.rules }

-- the number of the pool with a name
abbrev pub route_named : List RoutePool → PoolName → Option PoolId
route_named pools name = option_map (λ at. record { 0 = at }) (position (λ pool. same_name pool.name name) pools)

-- a rule that is added, its pool being there
abbrev pub with_added : Routes → Option ℕ → Option Rule → Routes
with_added routes place None = routes
with_added routes place (Some rule) = with_rules (added false (chain_in routes) (place_or_end place routes.rules) rule).0 routes

-- the pool with another cache, or none
abbrev pub with_route_cache : Option CacheId → RoutePool → RoutePool
with_route_cache cache pool = record pool { cache = cache }

-- the pools with the one of a number changed
abbrev pub change_route : (RoutePool → RoutePool) → ℕ → List RoutePool → List RoutePool
change_route change at [] = []
change_route change zero (pool ∷ pools) = change pool ∷ pools
change_route change (suc at) (pool ∷ pools) = pool ∷ change_route change at pools

-- the cache of a pool, where it is there and has one
abbrev pub route_cache : Option RoutePool → Option CacheId
route_cache None = None
route_cache (Some pool) = pool.cache

abbrev pub cache_routed : List RoutePool → ℕ → Option CacheId
cache_routed pools at = route_cache (slice_get pools at)

-- the attached caches without the one that a pool had, where it had one
abbrev pub caches_without : Option CacheId → List AttachedCache → List AttachedCache
caches_without None caches = caches
caches_without (Some id) caches = filter (λ cache. not (has_id id cache)) caches

-- a new cache in the place of the one that a pool has
abbrev pub with_attached : Routes → ℕ → ℕ → List ℕ → Option PoolId → Routes
with_attached routes max max_ttl skips None = routes
with_attached routes max max_ttl skips (Some pool) =
    let id : CacheId = record { 0 = routes.next_cache } in
    record routes {
      next_cache = routes.next_cache + 1;
      pools = change_route (with_route_cache (Some id)) pool.0 routes.pools;
      caches = caches_without (cache_routed routes.pools pool.0) routes.caches ++ (record { id = id; max = max; max_ttl = max_ttl; skips = skips }) ∷ [];
    }

-- the cache of a pool taken off it
abbrev pub with_detached : Routes → Option PoolId → Routes
with_detached routes None = routes
with_detached routes (Some pool) = record routes {
  pools = change_route (with_route_cache None) pool.0 routes.pools;
  caches = caches_without (cache_routed routes.pools pool.0) routes.caches;
}

-- a command that is carried out; those on servers and policies, and expunging, change no route
abbrev pub carried_out : Routes → Command → Routes
carried_out routes (RuleAdd place stated) = with_added routes place (rule_by (route_named routes.pools) stated)
carried_out routes (RuleRemove id) = with_rules (removed (chain_in routes) id).0 routes
carried_out routes (RuleMove id place) = with_rules (moved false (chain_in routes) id place).0 routes
carried_out routes (PoolAdd name) = record routes { pools = routes.pools ++ record { name = name; cache = None } ∷ [] }
carried_out routes (CacheAttach name max shards max_ttl skips) = with_attached routes max max_ttl skips (route_named routes.pools name)
carried_out routes (CacheDetach name) = with_detached routes (route_named routes.pools name)
carried_out routes _ = routes

-- a query that was walked through the rules, its passes counted; or one that was not walked, or met lack of memory
abbrev pub passed_unless : Bool → Routes → Asked → QueryView → Routes
passed_unless true routes asked view = routes
passed_unless false routes asked view =
    record routes { rules = counted (walk_of routes.rules view asked.origin.source asked.kind asked.moment).passes asked.origin.source asked.moment routes.rules }

-- the routes that an event leaves at its moment, by what its octets read as and its answer: a query that reached the walk
-- and met no lack of memory is counted, and a command that was answered Edited is carried out
abbrev pub left_by : Routes → Event → Reading → Answer → Routes
left_by routes (Query now origin kind word bytes) (OfQuery (Ok m)) answer =
    passed_unless (is_transfer m.qtype.0 || marked answer) routes (record { moment = routes.moment; origin = origin; kind = kind; word = word }) (view_of m)
left_by routes (Edit now command) reading (Edited note) = carried_out routes command
left_by routes _ _ _ = routes

-- the routes after an event
abbrev pub routes_after : Routes → Event → Reading → Answer → Routes
routes_after routes event reading answer = left_by (at_routes (moment_of event) routes) event reading answer

-- a pool's number and its cache are found among the routes as in the list of pools
abbrev pub PoolsAreFoundInRoutes : Type 0
PoolsAreFoundInRoutes = ((name : PoolName) (pools : List Pool) → route_named (map route_of pools) name ≡ pool_named pools name)
    × ((at : ℕ) (pools : List Pool) → cache_routed (map route_of pools) at ≡ cache_at pools at)

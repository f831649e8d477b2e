-- What a command does to the plain state, and its answer.
use Rattle.std.specs.Prelude.{◌≡◌, ℕ, Bool, false, List, length, Option, Some, None, option_and_then, option_map, Result, Ok, Err}
use Rattle.lb_wire.specs.declared.ids.CacheId.{CacheId}
use Rattle.lb_wire.specs.declared.ids.PoolId.{PoolId}
use Rattle.lb_wire.specs.declared.ids.ServerId.{ServerId}
use Rattle.lb_chain.specs.declared.action.Action.{Action}
use Rattle.lb_chain.specs.declared.fault.ChainFault.{ChainFault}
use Rattle.lb_chain.specs.declared.numbered.Numbered.{Numbered}
use Rattle.lb_chain.specs.declared.rule.Rule.{Rule}
use Rattle.lb_chain.specs.Action.{pool_in, with_pool}
use Rattle.lb_chain.specs.Edits.{Rules, added, removed, moved}
use Rattle.lb_servers.specs.declared.fault.ParkFault.{ParkFault}
use Rattle.lb_servers.specs.declared.fault.ParkFault.TheVariants as park_faults
use Rattle.lb_servers.specs.declared.pool.PoolName.{PoolName}
use Rattle.lb_servers.specs.Park.{Backends, added_pool, changed_pool}
use Rattle.lb_servers.specs.Pool.{cache_at, pool_named, with_policy}
use Rattle.lb_servers.specs.Server.{server_named}
use Rattle.lb_step.specs.declared.command.StatedRule.{StatedRule}
use Rattle.lb_step.specs.declared.command.Command.{Command}
use Rattle.lb_cache.specs.declared.cached.Covered.{Covered}
use Rattle.lb_step.specs.declared.command.Command.TheVariants.{RuleAdd, RuleRemove, RuleMove, ServerAdd, ServerRemove, ServerMode, PoolAdd, PoolPolicy, CacheAttach, CacheDetach, Expunge, SetTimeout, Show}
use Rattle.lb_step.specs.declared.answer.Answer.{Answer}
use Rattle.lb_step.specs.declared.answer.Answer.TheVariants.{Edited, Refused}
use Rattle.lb_step.specs.declared.answer.Note.{Note}
use Rattle.lb_step.specs.declared.answer.Note.TheVariants as notes
use Rattle.lb_step.specs.declared.answer.EditFault.TheVariants as faults
use Rattle.lb_step.specs.Plain.{Plain, chain_of, with_chain, upstreams_of, with_upstreams}
use Rattle.lb_step.specs.Upstream.{Upstreams, added_checked, attached_cache, backends_of, detached_cache, expunged_cache, on_backends, put_into, removed_checked, totals_of}

-- the place that a rule is added at: if none is stated, after the others
abbrev pub place_or_end : Option ℕ → List Numbered → ℕ
place_or_end None rules = length rules
place_or_end (Some place) rules = place

-- an action, its pool by the number that its name has; None where the pool is not there
abbrev pub action_by : (PoolName → Option PoolId) → Action PoolName → Option (Action PoolId)
action_by number action = with_pool (option_and_then number (pool_in action)) action

abbrev pub rule_by : (PoolName → Option PoolId) → StatedRule → Option Rule
rule_by number rule = option_map (λ action. record { term = rule.term; action = action }) (action_by number rule.action)

-- the answer to an edit of the chain, and to one of the servers and pools
abbrev pub rules_told : {A : Type 0} → (A → Note) → Result A ChainFault → Answer
rules_told note (Ok x) = Edited (note x)
rules_told note (Err fault) = Refused (faults.Rules fault)

abbrev pub servers_told : {A : Type 0} → (A → Note) → Result A ParkFault → Answer
servers_told note (Ok x) = Edited (note x)
servers_told note (Err fault) = Refused (faults.Servers fault)

-- what an edit of the chain leaves and answers
abbrev pub rules_edited : {A : Type 0} → (A → Note) → Plain → Rules × Result A ChainFault → Plain × Answer
rules_edited note plain done = (with_chain done.0 plain, rules_told note done.1)

-- what an edit of what stands upstream leaves and answers, and one of the servers and pools alone
abbrev pub upstream_told : {A : Type 0} → (A → Note) → Upstreams × Result A ParkFault → Upstreams × Answer
upstream_told note done = (done.0, servers_told note done.1)

abbrev pub upstream_edited : {A : Type 0} → (A → Note) → Upstreams → Backends × Result A ParkFault → Upstreams × Answer
upstream_edited note ups done = upstream_told note (on_backends ups done)

-- a pool, or a server, that is named and not there: that comes before every other refusal
abbrev pub no_such_pool : Answer
no_such_pool = Refused (faults.Servers park_faults.NoSuchPool)

abbrev pub no_such_server : Answer
no_such_server = Refused (faults.Servers park_faults.NoSuchServer)

-- a rule added, its pool being there or not
abbrev pub rule_added : Bool → Plain → Option ℕ → Option Rule → Plain × Answer
rule_added mark plain place None = (plain, no_such_pool)
rule_added mark plain place (Some rule) = rules_edited notes.RuleAdded plain (added mark (chain_of plain) (place_or_end place plain.rules) rule)

-- a server removed or put into a mode, and a pool given a policy, by the number that the name has
abbrev pub server_edited : (ServerId → Note) → (Upstreams → ServerId → Upstreams × Result (Unit {0}) ParkFault) → Upstreams → Option ServerId → Upstreams × Answer
server_edited note edit ups None = (ups, no_such_server)
server_edited note edit ups (Some id) = upstream_told (λ _. note id) (edit ups id)

abbrev pub pool_edited : Note → (Backends → PoolId → Backends × Result (Unit {0}) ParkFault) → Upstreams → Option PoolId → Upstreams × Answer
pool_edited note edit ups None = (ups, no_such_pool)
pool_edited note edit ups (Some pool) = upstream_edited (λ _. note) ups (edit (backends_of ups) pool)

-- the plain state with what stands upstream changed
abbrev pub upstream_changed : Plain → Upstreams × Answer → Plain × Answer
upstream_changed plain done = (with_upstreams done.0 plain, done.1)

-- a pool without a cache, where one is asked for
abbrev pub no_cache : Answer
no_cache = Refused faults.NoCache

-- a cache attached to the pool of a number, or taken off it
abbrev pub attached_to : Bool → Upstreams → ℕ → ℕ → List ℕ → Option PoolId → Upstreams × Answer
attached_to mark ups max max_ttl skips None = (ups, no_such_pool)
attached_to mark ups max max_ttl skips (Some pool) = upstream_told notes.CacheAttached (attached_cache mark ups pool max max_ttl skips)

abbrev pub cache_told : (CacheId → Note) → Option CacheId → Answer
cache_told note None = no_cache
cache_told note (Some id) = Edited (note id)

abbrev pub detached_from : Upstreams → Option PoolId → Upstreams × Answer
detached_from ups None = (ups, no_such_pool)
detached_from ups (Some pool) = let done = detached_cache ups pool in (done.0, cache_told notes.CacheDetached done.1)

-- the cache of a pool expunged
abbrev pub expunged_of : Upstreams → Covered → Option CacheId → Upstreams × Answer
expunged_of ups covered None = (ups, no_cache)
expunged_of ups covered (Some id) = let done = expunged_cache ups id covered in (done.0, Edited (notes.Expunged done.1))

abbrev pub expunged_from : Upstreams → Covered → Option PoolId → Upstreams × Answer
expunged_from ups covered None = (ups, no_such_pool)
expunged_from ups covered (Some pool) = expunged_of ups covered (cache_at ups.pools pool.0)

-- the servers of what stands upstream, by name
abbrev pub server_by : Upstreams → List ℕ → Option ServerId
server_by ups name = server_named (backends_of ups).servers name

-- what a command leaves and answers, if memory is lacking or not
abbrev pub edit_of : Bool → Plain → Command → Plain × Answer
edit_of mark plain (RuleAdd place rule) = rule_added mark plain place (rule_by (pool_named plain.pools) rule)
edit_of mark plain (RuleRemove id) = rules_edited (λ _. notes.RuleRemoved id) plain (removed (chain_of plain) id)
edit_of mark plain (RuleMove id place) = rules_edited (λ _. notes.RuleMoved id) plain (moved mark (chain_of plain) id place)
edit_of mark plain (ServerAdd spec check) = upstream_changed plain (upstream_told notes.ServerAdded (added_checked mark (upstreams_of plain) spec check))
edit_of mark plain (ServerRemove name) = upstream_changed plain (server_edited notes.ServerRemoved removed_checked (upstreams_of plain) (server_by (upstreams_of plain) name))
edit_of mark plain (ServerMode name mode) = upstream_changed plain (server_edited (λ id. notes.ServerMode id mode) (put_into mode) (upstreams_of plain) (server_by (upstreams_of plain) name))
edit_of mark plain (PoolAdd name) = upstream_changed plain (upstream_edited (λ _. notes.PoolAdded name) (upstreams_of plain) (added_pool mark (backends_of (upstreams_of plain)) name))
edit_of mark plain (PoolPolicy name policy) = upstream_changed plain (pool_edited (notes.PoolPolicy name policy) (changed_pool (with_policy policy)) (upstreams_of plain) (pool_named plain.pools name))
edit_of mark plain (CacheAttach name max shards max_ttl skips) = upstream_changed plain (attached_to mark (upstreams_of plain) max max_ttl skips (pool_named plain.pools name))
edit_of mark plain (CacheDetach name) = upstream_changed plain (detached_from (upstreams_of plain) (pool_named plain.pools name))
edit_of mark plain (Expunge name covered) = upstream_changed plain (expunged_from (upstreams_of plain) covered (pool_named plain.pools name))
edit_of mark plain Show = (plain, Edited (notes.Shown (totals_of (length plain.rules) (upstreams_of plain))))
edit_of mark plain (SetTimeout timeout) = (record plain { timeout = timeout }, Edited (notes.TimeoutSet timeout))

-- the command is carried out where no memory is lacking
abbrev pub Succeeds : Plain → Command → Type 0
Succeeds plain command = (note : Note) × ((edit_of false plain command).1 ≡ Edited note)

-- an edit of what stands upstream is carried out where no memory is lacking
abbrev pub Lacks : (Bool → Upstreams × Answer) → Type 0
Lacks edit = (note : Note) × ((edit false).1 ≡ Edited note)

-- the commands at which memory may be lacking: an added or moved rule, an added server, an added pool and an attached cache that
-- no other refusal meets
abbrev pub MayLackAt : Plain → Command → Type 0
MayLackAt plain (RuleAdd place rule) = Succeeds plain (RuleAdd place rule)
MayLackAt plain (RuleMove id place) = Succeeds plain (RuleMove id place)
MayLackAt plain (ServerAdd spec check) = Succeeds plain (ServerAdd spec check)
MayLackAt plain (PoolAdd name) = Succeeds plain (PoolAdd name)
MayLackAt plain (CacheAttach name max shards max_ttl skips) = Succeeds plain (CacheAttach name max shards max_ttl skips)
MayLackAt plain (RuleRemove id) = ⊥
MayLackAt plain (ServerRemove name) = ⊥
MayLackAt plain (ServerMode name mode) = ⊥
MayLackAt plain (PoolPolicy name policy) = ⊥
MayLackAt plain (CacheDetach name) = ⊥
MayLackAt plain (Expunge name covered) = ⊥
MayLackAt plain Show = ⊥
MayLackAt plain (SetTimeout timeout) = ⊥

-- The routes after an event follow from the routes before it, the event, its reading and its answer.
use Rattle.std.proofs.Common.{◌≡◌, ℕ, zero, suc, ◌+◌, ◌^◌, ◌==◌, ◌||◌, Bool, true, false, not, List, [], ◌∷◌, ◌++◌, length, map, nat_le, Option, None, Some, Result, Ok, Err, refl, sym, ◌∙◌, ap}
use Rattle.std.specs.Prelude.{if◌then◌else◌, is_some, option_and_then, option_map, slice_get}
use Rattle.lb_wire.specs.Belongs.{belongs}
use Rattle.lb_wire.specs.declared.ids.CacheId.{CacheId}
use Rattle.lb_wire.specs.declared.ids.PoolId.{PoolId}
use Rattle.lb_wire.specs.declared.key.Key.{Key}
use Rattle.lb_wire.specs.declared.ids.ServerId.{ServerId}
use Rattle.lb_wire.specs.declared.transport.Lane.{Lane}
use Rattle.lb_wire.specs.declared.query.QueryView.{QueryView}
use Rattle.lb_wire.specs.declared.query.QueryFault.{QueryFault}
use Rattle.lb_wire.specs.declared.query.QueryFault.TheVariants as query_faults
use Rattle.lb_wire.specs.declared.reply.ReplyView.{ReplyView}
use Rattle.lb_wire.specs.declared.reply.ReplyFault.{ReplyFault}
use Rattle.lb_wire.specs.declared.reply.ReplyFault.TheVariants as reply_faults
use Rattle.lb_chain.specs.declared.fault.ChainFault.{ChainFault}
use Rattle.lb_chain.specs.declared.rule.Rule.{Rule}
use Rattle.lb_chain.specs.declared.walked.Walked.{Walked}
use Rattle.lb_chain.specs.Edits.{Rules, moved, removed}
use Rattle.lb_chain.specs.Seen.{SeenTwice}
use Rattle.lb_servers.specs.declared.fault.ParkFault.{ParkFault}
use Rattle.lb_servers.specs.Park.{Backends, added_pool, added_server, changed_pool, max_pools, cache_ready_of, max_servers, removed_server}
use Rattle.lb_servers.specs.Pool.{cache_at, pool_named, with_cache as with_pool_cache, with_policy}
use Rattle.lb_servers.specs.Server.{change_server, is_server, marked as marked_as, server_named, with_mode}
use Rattle.lb_table.specs.declared.entry.Entry.{Entry}
use Rattle.lb_table.specs.declared.place.Place.{Place}
use Rattle.lb_table.specs.Place.{at_place}
use Rattle.lb_table.specs.Table.{due, entry_at}
use Rattle.lb_cache.specs.declared.cached.AttachedCache.{AttachedCache}
use Rattle.lb_cache.specs.declared.cached.Covered.{Covered}
use Rattle.lb_cache.specs.declared.cached.KeptReply.{KeptReply}
use Rattle.lb_cache.specs.Caches.{looked_in, without_old}
use Rattle.lb_step.specs.declared.asked.Asked.{Asked}
use Rattle.lb_step.specs.declared.asked.Routed.{Routed}
use Rattle.lb_step.specs.declared.event.Event.{Event}
use Rattle.lb_step.specs.declared.event.Event.TheVariants.{Query, Reply, Tick, HealthResult, Edit}
use Rattle.lb_step.specs.declared.command.Command.{Command}
use Rattle.lb_step.specs.declared.command.Command.TheVariants.{RuleAdd, RuleRemove, RuleMove, ServerAdd, ServerRemove, ServerMode, PoolAdd, PoolPolicy, CacheAttach, CacheDetach, Expunge, SetTimeout, Show}
use Rattle.lb_step.specs.declared.answer.Answer.{Answer}
use Rattle.lb_step.specs.declared.answer.Note.{Note}
use Rattle.lb_step.specs.declared.answer.Note.TheVariants as notes
use Rattle.lb_step.specs.Answer.{marked}
use Rattle.lb_step.specs.Plain.{Plain, at_plain, chain_of, upstreams_of, with_chain, with_upstreams}
use Rattle.lb_step.specs.Upstream.{Upstreams, backends_of}
use Rattle.lb_step.specs.Edit.{attached_to, cache_told, detached_from, edit_of, expunged_from, expunged_of, place_or_end, pool_edited, rule_added, rule_by, rules_told, server_by, server_edited, servers_told, upstream_changed, upstream_edited, upstream_told}
use Rattle.lb_step.specs.Query.{QuerySteps, ReadSteps, WalkedSteps, is_transfer, walked_of}
use Rattle.lb_step.specs.Reading.{Reading, OfNone, OfQuery, OfReply, moment_of, viewed}
use Rattle.lb_wire.specs.Message.{Message}
use Rattle.lb_wire.specs.Query.{view_of}
use Rattle.lb_step.specs.Look.{AskAnswers, FoundAnswers, PoolAnswers, ask_of}
use Rattle.lb_step.specs.Reply.{BelongsOrNot, HeldAgainst, ReplySteps}
use Rattle.lb_step.specs.Step.{RoutesFollow, StepsAt, asked_at}
use Rattle.lb_step.proofs.Follows.{Follows, follows_added, follows_moved, follows_removed}
use Rattle.std.proofs.lemmas.List.{length-map, map-append}
use Rattle.std.specs.List.{filter, list_any, position, position_or_len}
use Rattle.lb_wire.specs.declared.addr.Origin.{Origin}
use Rattle.lb_wire.specs.declared.transport.Kind.{Kind}
use Rattle.lb_servers.specs.declared.fault.ParkFault.TheVariants as park_faults
use Rattle.lb_servers.specs.declared.server.Mode.{Mode}
use Rattle.lb_servers.specs.declared.spec.ServerSpec.{ServerSpec}
use Rattle.lb_servers.specs.Spec.{lacks_pool, new_server, stated_pools}
use Rattle.lb_wire.specs.declared.ids.RuleId.{RuleId}
use Rattle.lb_chain.specs.declared.action.Action.{Action}
use Rattle.lb_chain.specs.Action.{pool_in, with_pool}
use Rattle.lb_chain.specs.declared.walked.Verdict.{Verdict}
use Rattle.lb_chain.specs.declared.walked.Verdict.TheVariants as verdicts
use Rattle.lb_servers.specs.declared.pool.Pool.{Pool}
use Rattle.lb_servers.specs.declared.pool.PoolName.{PoolName}
use Rattle.lb_servers.specs.declared.pool.Policy.{Policy}
use Rattle.lb_servers.specs.Pool.{change_at, is_named, new_pool, same_name, turned}
use Rattle.lb_step.specs.declared.command.StatedRule.{StatedRule}
use Rattle.lb_step.specs.Edit.{action_by}
use Rattle.lb_step.specs.Forward.{PickForwards, sent}
use Rattle.lb_step.specs.Query.{EndDecides, RuleDecides, default_pool, to_pool, with_passes}
use Rattle.lb_step.specs.Routes.{RoutePool, Routes, cache_routed, caches_without, carried_out, change_route, left_by, passed_unless, route_named, route_of, routes_of, with_added, with_attached, with_detached, with_route_cache, with_rules}
use Rattle.lb_step.specs.Upstream.{attached_if, caches_of, detached_if, with_backends, checked_by, is_check, on_backends, picked_of, put_into, removed_checked, takes_turns, turned_if, unchecked_by, with_mark, with_turn}
use Rattle.lb_step.specs.Expiry.{Ends}
use Rattle.lb_step.specs.Health.{after_result, result_at, result_by, result_step, with_change, with_check_at}
use Rattle.lb_step.specs.declared.check.Check.{Check}
use Rattle.lb_step.specs.declared.check.CheckSpec.{CheckSpec}
use Rattle.lb_health.specs.Health.{result_of}
use Rattle.lb_health.specs.declared.health.Changed.{Changed}
use Rattle.lb_health.specs.declared.health.Changed.TheVariants as changes
use Rattle.lb_table.specs.declared.entry.Waiting.{Waiting}
use Rattle.lb_step.proofs.ChecksKeep.{Shown, shown}
use Rattle.lb_step.proofs.Refusals.{IsSeen, left_of, own_chain, seen_at, told_of}

-- a pool that is changed, but not in its name
still_named : (change : Pool → Pool) (at : ℕ) (pools : List Pool) → ((p : Pool) → route_of (change p) ≡ route_of p) → map route_of (change_at change at pools) ≡ map route_of pools
still_named change at [] keeps = refl
still_named change zero (p ∷ pools) keeps = ap (λ (r : RoutePool). r ∷ map route_of pools) (keeps p)
still_named change (suc at) (p ∷ pools) keeps = ap (λ (rs : List RoutePool). route_of p ∷ rs) (still_named change at pools keeps)

turn_keeps : (b : Bool) (p : Pool) → route_of (if b then turned p else p) ≡ route_of p
turn_keeps true p = refl
turn_keeps false p = refl

-- what routes see of what stands upstream
abbrev pub Seen : Type 0
Seen = ℕ × List RoutePool × List AttachedCache

abbrev pub seen_of : Upstreams → Seen
seen_of ups = (ups.next_cache, map route_of ups.pools, ups.caches)

-- the routes that see this of it
abbrev seen_by : Routes → Seen → Routes
seen_by routes seen = record routes { next_cache = seen.0; pools = seen.1; caches = seen.2 }

-- that, and the servers with their health checks
abbrev pub whole_of : Upstreams → Seen × Shown
whole_of ups = (seen_of ups, shown ups)

-- forwarding changes nothing of it
sent_names : (ups : Upstreams) (asked : Asked) (bytes : List ℕ) (view : QueryView) (routed : Routed) (ask : Option (CacheId × Key)) (server : ServerId) (by : Option (Lane × ℕ)) → whole_of (sent ups asked bytes view routed ask server by).0 ≡ whole_of ups
sent_names ups asked bytes view routed ask server None = refl
sent_names ups asked bytes view routed ask server (Some (lane, id)) = refl

pick_names : (ups after : Upstreams) (asked : Asked) (bytes : List ℕ) (view : QueryView) (routed : Routed) (ask : Option (CacheId × Key)) (server : Option ServerId) (answer : Answer) →
    PickForwards ups asked bytes view routed ask server answer after → whole_of after ≡ whole_of ups
pick_names ups after asked bytes view routed ask None answer is = ap whole_of (left_of after answer _ is)
pick_names ups after asked bytes view routed ask (Some server) answer is =
    ap whole_of (left_of after answer (sent (with_turn routed.pool ups) asked bytes view routed ask server is.0) is.2)
    ∙ sent_names (with_turn routed.pool ups) asked bytes view routed ask server is.0
    ∙ ap (λ (pools : List RoutePool). ((ups.next_cache, pools, ups.caches), shown ups)) (still_named turned_if routed.pool.0 ups.pools (λ p. turn_keeps (takes_turns (Some p.policy)) p))

found_names : (ups after : Upstreams) (asked : Asked) (bytes : List ℕ) (view : QueryView) (routed : Routed) (ask : CacheId × Key) (hit : Option (List ℕ × ℕ)) (answer : Answer) →
    FoundAnswers ups asked bytes view routed ask hit answer after → whole_of after ≡ whole_of ups
found_names ups after asked bytes view routed ask None answer is = pick_names ups after asked bytes view routed (Some ask) (picked_of ups routed.pool) answer is
found_names ups after asked bytes view routed ask (Some hit) answer is = ap whole_of (left_of after answer _ is.2)

ask_names : (ups after : Upstreams) (asked : Asked) (bytes : List ℕ) (view : QueryView) (routed : Routed) (ask : Option (CacheId × Key)) (answer : Answer) →
    AskAnswers ups asked bytes view routed ask answer after → whole_of after ≡ whole_of ups
ask_names ups after asked bytes view routed None answer is = pick_names ups after asked bytes view routed None (picked_of ups routed.pool) answer is
ask_names ups after asked bytes view routed (Some ask) answer is = found_names ups after asked bytes view routed ask (looked_in ups.kept ask.0 ask.1 asked.moment) answer is

pool_names : (ups after : Upstreams) (asked : Asked) (bytes : List ℕ) (view : QueryView) (routed : Routed) (answer : Answer) → PoolAnswers ups asked bytes view routed answer after → whole_of after ≡ whole_of ups
pool_names ups after asked bytes view routed answer is = ask_names ups after asked bytes view routed (ask_of ups.caches (cache_at ups.pools routed.pool.0) asked.kind is.0 routed) answer is.3

rule_names : (ups after : Upstreams) (asked : Asked) (bytes : List ℕ) (view : QueryView) (walked : Walked) (rule : RuleId) (verdict : Verdict) (answer : Answer) →
    RuleDecides ups asked bytes view walked rule verdict answer after → whole_of after ≡ whole_of ups
rule_names ups after asked bytes view walked rule verdicts.Allow answer is = pool_names ups after asked bytes view (to_pool walked default_pool) answer is
rule_names ups after asked bytes view walked rule (verdicts.Pool pool) answer is = pool_names ups after asked bytes view (to_pool walked pool) answer is
rule_names ups after asked bytes view walked rule verdicts.Drop answer is = ap whole_of (left_of after answer _ is)
rule_names ups after asked bytes view walked rule (verdicts.Rcode rcode) answer is = ap whole_of (left_of after answer _ is)
rule_names ups after asked bytes view walked rule verdicts.Tc answer is = ap whole_of (left_of after answer _ is)
rule_names ups after asked bytes view walked rule (verdicts.Spoof addrs) answer is = ap whole_of (left_of after answer _ is)

pub end_names : (ups after : Upstreams) (asked : Asked) (bytes : List ℕ) (view : QueryView) (walked : Walked) (rule : Option RuleId) (answer : Answer) →
    EndDecides ups asked bytes view walked rule answer after → whole_of after ≡ whole_of ups
end_names ups after asked bytes view walked None answer is = pool_names ups after asked bytes view (to_pool walked default_pool) answer is
end_names ups after asked bytes view walked (Some rule) answer is = rule_names ups after asked bytes view walked rule walked.verdict answer is

-- a query, by its reading
abbrev Follow : Plain → Event → Reading → Answer → Plain → Type 0
Follow p event reading answer new = routes_of new ≡ left_by (routes_of p) event reading answer

walk_follows : (mark : Bool) (p new : Plain) (asked : Asked) (bytes : List ℕ) (view : QueryView) (answer : Answer) →
    WalkedSteps mark p asked bytes view (walked_of p asked view) answer new → routes_of new ≡ passed_unless mark (routes_of p) asked view
walk_follows true p new asked bytes view answer step = ap routes_of (left_of new answer _ step)
walk_follows false p new asked bytes view answer step =
    let walked = walked_of p asked view in
    ap routes_of step.2
    ∙ ap (λ (w : Seen × Shown). seen_by (routes_of (with_passes asked walked p)) w.0) (end_names (upstreams_of p) step.0 asked bytes view walked walked.rule answer step.1)

read_follows : (transfer mark : Bool) (p new : Plain) (asked : Asked) (bytes : List ℕ) (view : QueryView) (answer : Answer) →
    ReadSteps transfer mark p asked bytes view answer new → routes_of new ≡ passed_unless (transfer || mark) (routes_of p) asked view
read_follows true mark p new asked bytes view answer step = ap routes_of (left_of new answer _ step)
read_follows false mark p new asked bytes view answer step = walk_follows mark p new asked bytes view answer step

query_follows : (p new : Plain) (now : ℕ) (origin : Origin) (kind : Kind) (word : ℕ) (bytes : List ℕ) (reading : Result Message QueryFault) (answer : Answer) →
    QuerySteps (marked answer) p (asked_at p.moment origin kind word) bytes (viewed reading) answer new → Follow p (Query now origin kind word bytes) (OfQuery reading) answer new
query_follows p new now origin kind word bytes (Err query_faults.Short) answer step = ap routes_of (left_of new answer _ step)
query_follows p new now origin kind word bytes (Err query_faults.NotQuery) answer step = ap routes_of (left_of new answer _ step)
query_follows p new now origin kind word bytes (Err query_faults.Malformed) answer step = ap routes_of (left_of new answer _ step)
query_follows p new now origin kind word bytes (Ok m) answer step = read_follows (is_transfer m.qtype.0) (marked answer) p new (asked_at p.moment origin kind word) bytes (view_of m) answer step

-- a reply changes nothing of it
belongs_pools : (fits mark : Bool) (ups after : Upstreams) (place : Place) (moment : ℕ) (bytes : List ℕ) (view : ReplyView) (entry : Entry) (answer : Answer) →
    BelongsOrNot fits mark ups place moment bytes view entry answer after → whole_of after ≡ whole_of ups
belongs_pools true mark ups after place moment bytes view entry answer step = ap whole_of (left_of after answer _ step.3)
belongs_pools false mark ups after place moment bytes view entry answer step = ap whole_of (left_of after answer _ step)

held_pools : (mark : Bool) (ups after : Upstreams) (place : Place) (moment : ℕ) (bytes : List ℕ) (view : ReplyView) (entry : Option Entry) (answer : Answer) →
    HeldAgainst mark ups place moment bytes view entry answer after → whole_of after ≡ whole_of ups
held_pools mark ups after place moment bytes view None answer step = ap whole_of (left_of after answer _ step)
held_pools mark ups after place moment bytes view (Some entry) answer step =
    belongs_pools (belongs view entry.name entry.qtype entry.qclass) mark ups after place moment bytes view entry answer step

pub reply_pools : (mark : Bool) (ups after : Upstreams) (server : ServerId) (lane : Lane) (moment : ℕ) (bytes : List ℕ) (reading : Result ReplyView ReplyFault) (answer : Answer) →
    ReplySteps mark ups server lane moment bytes reading answer after → whole_of after ≡ whole_of ups
reply_pools mark ups after server lane moment bytes (Err reply_faults.Short) answer step = ap whole_of (left_of after answer _ step)
reply_pools mark ups after server lane moment bytes (Err reply_faults.NotReply) answer step = ap whole_of (left_of after answer _ step)
reply_pools mark ups after server lane moment bytes (Ok view) answer step =
    held_pools mark ups after (at_place server lane view.id) moment bytes view (entry_at ups.outstanding (at_place server lane view.id)) answer step

-- the routes with what stands upstream changed
upstream_routes : (p : Plain) (done : Upstreams × Answer) → seen_of done.0 ≡ seen_of (upstreams_of p) → routes_of (upstream_changed p done).0 ≡ routes_of p
upstream_routes p done is = ap (seen_by (routes_of p)) is

-- a pool is found by its name as it is among the routes
where_named : (name : PoolName) (pools : List Pool) → position_or_len (λ pool. same_name pool.name name) (map route_of pools) ≡ position_or_len (is_named name) pools
where_named name [] = refl
where_named name (p ∷ pools) = rw (where_named name pools) refl

pub named_alike : (name : PoolName) (pools : List Pool) → route_named (map route_of pools) name ≡ pool_named pools name
named_alike name pools = rw (where_named name pools, length-map pools route_of) refl

pool_alike : (pools : List Pool) (name : Option PoolName) → option_and_then (route_named (map route_of pools)) name ≡ option_and_then (pool_named pools) name
pool_alike pools None = refl
pool_alike pools (Some name) = named_alike name pools

action_alike : (pools : List Pool) (action : Action PoolName) → action_by (route_named (map route_of pools)) action ≡ action_by (pool_named pools) action
action_alike pools action = ap (λ (pool : Option PoolId). with_pool pool action) (pool_alike pools (pool_in action))

rule_alike : (pools : List Pool) (rule : StatedRule) → rule_by (route_named (map route_of pools)) rule ≡ rule_by (pool_named pools) rule
rule_alike pools rule = ap (λ (a : Option (Action PoolId)). option_map (λ action. record { term = rule.term; action = action }) a) (action_alike pools rule.action)

-- an edit of the chain
rules_follow : {A : Type 0} (note : A → Note) (p : Plain) (now : ℕ) (command : Command) (x y : Rules × Result A ChainFault) → IsSeen p → Follows (chain_of p) x y →
    carried_out (routes_of p) command ≡ with_rules y.0 (routes_of p) → routes_of (with_chain x.0 p) ≡ left_by (routes_of p) (Edit now command) OfNone (rules_told note x.1)
rules_follow note p now command (c, Ok v) y seen follows is = ap (λ (d : Rules × Result _ ChainFault). with_rules d.0 (routes_of p)) (follows.carried refl) ∙ sym is
rules_follow note p now command (c, Err fault) y seen follows is = ap (λ (d : Rules). routes_of (with_chain d p)) (follows.kept refl) ∙ ap routes_of (own_chain p seen)

added_follows : (mark : Bool) (p : Plain) (now : ℕ) (place : Option ℕ) (rule : StatedRule) (found : Option Rule) → IsSeen p →
    carried_out (routes_of p) (RuleAdd place rule) ≡ with_added (routes_of p) place found →
    routes_of (rule_added mark p place found).0 ≡ left_by (routes_of p) (Edit now (RuleAdd place rule)) OfNone (rule_added mark p place found).1
added_follows mark p now place rule None seen is = refl
added_follows mark p now place rule (Some one) seen is =
    rules_follow notes.RuleAdded p now (RuleAdd place rule) _ _ seen (follows_added mark (chain_of p) (place_or_end place p.rules) one) is

-- an edit of the servers and pools that gives this leaves the routes that its answer says
FollowsBy : {A : Type 0} → (A → Note) → Plain → ℕ → Command → Backends × Result A ParkFault → Type 0
FollowsBy note p now command x = routes_of (upstream_changed p (upstream_edited note (upstreams_of p) x)).0 ≡ left_by (routes_of p) (Edit now command) OfNone (servers_told note x.1)

by_if : {A : Type 0} (note : A → Note) (p : Plain) (now : ℕ) (command : Command) (b : Bool) (x y : Backends × Result A ParkFault) →
    FollowsBy note p now command x → FollowsBy note p now command y → FollowsBy note p now command (if b then x else y)
by_if note p now command true x y first second = first
by_if note p now command false x y first second = second

by_fault : {A : Type 0} (note : A → Note) (p : Plain) (now : ℕ) (command : Command) (fault : ParkFault) → FollowsBy note p now command (backends_of (upstreams_of p), Err fault)
unfolding FollowsBy
by_fault note p now command fault = refl

by_done : {A : Type 0} (note : A → Note) (p : Plain) (now : ℕ) (command : Command) (park : Backends) (v : A) →
    record (routes_of p) { next_cache = park.next_cache; pools = map route_of park.pools } ≡ carried_out (routes_of p) command → FollowsBy note p now command (park, Ok v)
unfolding FollowsBy
by_done note p now command park v is = is

server_added : (mark : Bool) (p : Plain) (now : ℕ) (spec : ServerSpec) (check : CheckSpec) → FollowsBy notes.ServerAdded p now (ServerAdd spec check) (added_server mark (backends_of (upstreams_of p)) spec)
server_added mark p now spec check =
    let park = backends_of (upstreams_of p) in
    let command = ServerAdd spec check in
    let refuse : (fault : ParkFault) → FollowsBy notes.ServerAdded p now command (park, Err fault) = by_fault notes.ServerAdded p now command in
    by_if notes.ServerAdded p now command (lacks_pool park.pools (stated_pools spec.pools)) (park, Err park_faults.NoSuchPool) _ (refuse park_faults.NoSuchPool)
    (by_if notes.ServerAdded p now command (is_some (server_named park.servers spec.name)) (park, Err park_faults.NameTaken) _ (refuse park_faults.NameTaken)
    (by_if notes.ServerAdded p now command (nat_le max_servers (length park.servers)) (park, Err park_faults.TooMany) _ (refuse park_faults.TooMany)
    (by_if notes.ServerAdded p now command (park.next == 2 ^ 64) (park, Err park_faults.NoMoreIds) _ (refuse park_faults.NoMoreIds)
    (by_if notes.ServerAdded p now command mark (park, Err park_faults.NoMemory) (record park { next = park.next + 1; servers = park.servers ++ new_server park.next park.pools spec ∷ [] }, Ok (record { 0 = park.next })) (refuse park_faults.NoMemory)
    (by_done notes.ServerAdded p now command (record park { next = park.next + 1; servers = park.servers ++ new_server park.next park.pools spec ∷ [] }) (record { 0 = park.next }) refl)))))

-- the health check of a server that is added or removed changes no route
checked_follows : (p : Plain) (now : ℕ) (command : Command) (check : CheckSpec) (x : Backends × Result ServerId ParkFault) → FollowsBy notes.ServerAdded p now command x →
    routes_of (upstream_changed p (upstream_told notes.ServerAdded (checked_by check (on_backends (upstreams_of p) x)))).0
    ≡ left_by (routes_of p) (Edit now command) OfNone (servers_told notes.ServerAdded x.1)
unfolding FollowsBy
checked_follows p now command check (park, Ok id) follows = follows
checked_follows p now command check (park, Err fault) follows = follows

unchecked_follows : (p : Plain) (now : ℕ) (command : Command) (id : ServerId) (x : Backends × Result (Unit {0}) ParkFault) → FollowsBy (λ _. notes.ServerRemoved id) p now command x →
    routes_of (upstream_changed p (upstream_told (λ _. notes.ServerRemoved id) (unchecked_by id (on_backends (upstreams_of p) x)))).0
    ≡ left_by (routes_of p) (Edit now command) OfNone (servers_told (λ _. notes.ServerRemoved id) x.1)
unfolding FollowsBy
unchecked_follows p now command id (park, Ok x) follows = follows
unchecked_follows p now command id (park, Err fault) follows = follows

pool_added : (mark : Bool) (p : Plain) (now : ℕ) (name : PoolName) → FollowsBy (λ _. notes.PoolAdded name) p now (PoolAdd name) (added_pool mark (backends_of (upstreams_of p)) name)
pool_added mark p now name =
    let park = backends_of (upstreams_of p) in
    let command = PoolAdd name in
    let note : PoolId → Note = λ _. notes.PoolAdded name in
    let refuse : (fault : ParkFault) → FollowsBy note p now command (park, Err fault) = by_fault note p now command in
    by_if note p now command (list_any (is_named name) park.pools) (park, Err park_faults.NameTaken) _ (refuse park_faults.NameTaken)
    (by_if note p now command (nat_le max_pools (length park.pools)) (park, Err park_faults.TooMany) _ (refuse park_faults.TooMany)
    (by_if note p now command mark (park, Err park_faults.NoMemory) (record park { pools = park.pools ++ new_pool name ∷ [] }, Ok (record { 0 = length park.pools })) (refuse park_faults.NoMemory)
    (by_done note p now command (record park { pools = park.pools ++ new_pool name ∷ [] }) (record { 0 = length park.pools })
    (ap (λ (pools : List RoutePool). record (routes_of p) { pools = pools }) (map-append route_of p.pools (new_pool name ∷ []))))))

server_removed : (p : Plain) (now : ℕ) (name : List ℕ) (id : Option ServerId) →
    routes_of (upstream_changed p (server_edited notes.ServerRemoved removed_checked (upstreams_of p) id)).0 ≡ left_by (routes_of p) (Edit now (ServerRemove name)) OfNone (server_edited notes.ServerRemoved removed_checked (upstreams_of p) id).1
server_removed p now name None = refl
server_removed p now name (Some id) =
    let park = backends_of (upstreams_of p) in
    let note : Unit {0} → Note = λ _. notes.ServerRemoved id in
    let less = record park { servers = filter (λ l. not (is_server id l)) park.servers } in
    unchecked_follows p now (ServerRemove name) id (removed_server park id)
    (by_if note p now (ServerRemove name) (list_any (is_server id) park.servers) (less, Ok tt) (park, Err park_faults.NoSuchServer)
    (by_done note p now (ServerRemove name) less tt refl) (by_fault note p now (ServerRemove name) park_faults.NoSuchServer))

server_put : (p : Plain) (now : ℕ) (name : List ℕ) (mode : Mode) (id : Option ServerId) →
    routes_of (upstream_changed p (server_edited (λ id. notes.ServerMode id mode) (put_into mode) (upstreams_of p) id)).0
    ≡ left_by (routes_of p) (Edit now (ServerMode name mode)) OfNone (server_edited (λ id. notes.ServerMode id mode) (put_into mode) (upstreams_of p) id).1
unfolding FollowsBy
server_put p now name mode None = refl
server_put p now name mode (Some id) =
    let park = backends_of (upstreams_of p) in
    let note : Unit {0} → Note = λ _. notes.ServerMode id mode in
    let put = record park { servers = change_server id (with_mode mode) park.servers } in
    by_if note p now (ServerMode name mode) (list_any (is_server id) park.servers) (put, Ok tt) (park, Err park_faults.NoSuchServer)
    (by_done note p now (ServerMode name mode) put tt refl) (by_fault note p now (ServerMode name mode) park_faults.NoSuchServer)

policy_put : (p : Plain) (now : ℕ) (name : PoolName) (policy : Policy) (pool : Option PoolId) →
    routes_of (upstream_changed p (pool_edited (notes.PoolPolicy name policy) (changed_pool (with_policy policy)) (upstreams_of p) pool)).0
    ≡ left_by (routes_of p) (Edit now (PoolPolicy name policy)) OfNone (pool_edited (notes.PoolPolicy name policy) (changed_pool (with_policy policy)) (upstreams_of p) pool).1
unfolding FollowsBy
policy_put p now name policy None = refl
policy_put p now name policy (Some pool) =
    let park = backends_of (upstreams_of p) in
    let note : Unit {0} → Note = λ _. notes.PoolPolicy name policy in
    let put = record park { pools = change_at (with_policy policy) pool.0 park.pools } in
    by_if note p now (PoolPolicy name policy) (is_some (slice_get park.pools pool.0)) (put, Ok tt) (park, Err park_faults.NoSuchPool)
    (by_done note p now (PoolPolicy name policy) put tt (ap (λ (pools : List RoutePool). record (routes_of p) { pools = pools }) (still_named (with_policy policy) pool.0 park.pools (λ p. refl))))
    (by_fault note p now (PoolPolicy name policy) park_faults.NoSuchPool)

-- a cache attached to a pool, or taken off it
still_routed : (cache : Option CacheId) (at : ℕ) (pools : List Pool) → map route_of (change_at (with_pool_cache cache) at pools) ≡ change_route (with_route_cache cache) at (map route_of pools)
still_routed cache at [] = refl
still_routed cache zero (p ∷ pools) = refl
still_routed cache (suc at) (p ∷ pools) = ap (λ (rs : List RoutePool). route_of p ∷ rs) (still_routed cache at pools)

-- the cache of a pool is the one that routes see
pub routed_at : (at : ℕ) (pools : List Pool) → cache_routed (map route_of pools) at ≡ cache_at pools at
routed_at at [] = refl
routed_at zero (p ∷ pools) = refl
routed_at (suc at) (p ∷ pools) = routed_at at pools

old_left : (old : Option CacheId) (caches : List AttachedCache) (kept : List KeptReply) → (without_old old (record { caches = caches; kept = kept })).caches ≡ caches_without old caches
old_left None caches kept = refl
old_left (Some id) caches kept = refl

-- an edit of a cache leaves the routes that its answer says
replaced_follows : (mark : Bool) (p : Plain) (now : ℕ) (command : Command) (pool : PoolId) (max max_ttl : ℕ) (skips : List ℕ) (ready : Result (Unit {0}) ParkFault) →
    carried_out (routes_of p) command ≡ with_attached (routes_of p) max max_ttl skips (Some pool) →
    routes_of (upstream_changed p (upstream_told notes.CacheAttached (attached_if mark (upstreams_of p) pool max max_ttl skips ready))).0
    ≡ left_by (routes_of p) (Edit now command) OfNone (upstream_told notes.CacheAttached (attached_if mark (upstreams_of p) pool max max_ttl skips ready)).1
replaced_follows mark p now command pool max max_ttl skips (Err fault) is = refl
replaced_follows true p now command pool max max_ttl skips (Ok ready) is = refl
replaced_follows false p now command pool max max_ttl skips (Ok ready) is =
    let id : CacheId = record { 0 = p.next_cache } in
    let cache : AttachedCache = record { id = id; max = max; max_ttl = max_ttl; skips = skips } in
    let left : List RoutePool → List AttachedCache → Routes =
    λ pools caches. record (routes_of p) { next_cache = p.next_cache + 1; pools = pools; caches = caches ++ cache ∷ [] } in
    let others : (without_old (cache_at p.pools pool.0) (caches_of (upstreams_of p))).caches ≡ caches_without (cache_routed (map route_of p.pools) pool.0) p.caches =
    old_left (cache_at p.pools pool.0) p.caches p.kept ∙ ap (λ (old : Option CacheId). caches_without old p.caches) (sym (routed_at pool.0 p.pools)) in
    ap (λ (pools : List RoutePool). left pools (without_old (cache_at p.pools pool.0) (caches_of (upstreams_of p))).caches) (still_routed (Some id) pool.0 p.pools)
    ∙ ap (λ (caches : List AttachedCache). left (change_route (with_route_cache (Some id)) pool.0 (map route_of p.pools)) caches) others
    ∙ sym is

attached_follows : (mark : Bool) (p : Plain) (now : ℕ) (command : Command) (max max_ttl : ℕ) (skips : List ℕ) (pool : Option PoolId) → carried_out (routes_of p) command ≡ with_attached (routes_of p) max max_ttl skips pool →
    routes_of (upstream_changed p (attached_to mark (upstreams_of p) max max_ttl skips pool)).0 ≡ left_by (routes_of p) (Edit now command) OfNone (attached_to mark (upstreams_of p) max max_ttl skips pool).1
attached_follows mark p now command max max_ttl skips None is = refl
attached_follows mark p now command max max_ttl skips (Some pool) is = replaced_follows mark p now command pool max max_ttl skips (cache_ready_of (backends_of (upstreams_of p)) pool) is

taken_follows : (p : Plain) (now : ℕ) (command : Command) (pool : PoolId) (cache : Option CacheId) → cache_at p.pools pool.0 ≡ cache →
    carried_out (routes_of p) command ≡ with_detached (routes_of p) (Some pool) →
    routes_of (with_upstreams (detached_if (upstreams_of p) pool cache).0 p) ≡ left_by (routes_of p) (Edit now command) OfNone (cache_told notes.CacheDetached (detached_if (upstreams_of p) pool cache).1)
taken_follows p now command pool None has is = refl
taken_follows p now command pool (Some id) has is =
    let left : List RoutePool → Option CacheId → Routes = λ pools old. record (routes_of p) { pools = pools; caches = caches_without old p.caches } in
    ap (λ (pools : List RoutePool). left pools (Some id)) (still_routed None pool.0 p.pools)
    ∙ ap (left (change_route (with_route_cache None) pool.0 (map route_of p.pools))) (sym (routed_at pool.0 p.pools ∙ has))
    ∙ sym is

detached_follows : (p : Plain) (now : ℕ) (command : Command) (pool : Option PoolId) → carried_out (routes_of p) command ≡ with_detached (routes_of p) pool →
    routes_of (upstream_changed p (detached_from (upstreams_of p) pool)).0 ≡ left_by (routes_of p) (Edit now command) OfNone (detached_from (upstreams_of p) pool).1
detached_follows p now command None is = refl
detached_follows p now command (Some pool) is = taken_follows p now command pool (cache_at p.pools pool.0) refl is

emptied_follows : (p : Plain) (now : ℕ) (command : Command) (covered : Covered) (cache : Option CacheId) → carried_out (routes_of p) command ≡ routes_of p →
    routes_of (upstream_changed p (expunged_of (upstreams_of p) covered cache)).0 ≡ left_by (routes_of p) (Edit now command) OfNone (expunged_of (upstreams_of p) covered cache).1
emptied_follows p now command covered None is = refl
emptied_follows p now command covered (Some id) is = sym is

expunged_follows : (p : Plain) (now : ℕ) (command : Command) (covered : Covered) (pool : Option PoolId) → carried_out (routes_of p) command ≡ routes_of p →
    routes_of (upstream_changed p (expunged_from (upstreams_of p) covered pool)).0 ≡ left_by (routes_of p) (Edit now command) OfNone (expunged_from (upstreams_of p) covered pool).1
expunged_follows p now command covered None is = refl
expunged_follows p now command covered (Some pool) is = emptied_follows p now command covered (cache_at p.pools pool.0) is

-- a command
edit_follows : (mark : Bool) (p : Plain) (now : ℕ) (command : Command) → IsSeen p → routes_of (edit_of mark p command).0 ≡ left_by (routes_of p) (Edit now command) OfNone (edit_of mark p command).1
unfolding FollowsBy
edit_follows mark p now (RuleAdd place rule) seen =
    added_follows mark p now place rule (rule_by (pool_named p.pools) rule) seen (ap (λ (found : Option Rule). with_added (routes_of p) place found) (rule_alike p.pools rule))
edit_follows mark p now (RuleRemove id) seen = rules_follow (λ _. notes.RuleRemoved id) p now (RuleRemove id) (removed (chain_of p) id) (removed (chain_of p) id) seen (follows_removed (chain_of p) id) refl
edit_follows mark p now (RuleMove id place) seen = rules_follow (λ _. notes.RuleMoved id) p now (RuleMove id place) (moved mark (chain_of p) id place) (moved false (chain_of p) id place) seen (follows_moved mark (chain_of p) id place) refl
edit_follows mark p now (ServerAdd spec check) seen =
    checked_follows p now (ServerAdd spec check) check (added_server mark (backends_of (upstreams_of p)) spec) (server_added mark p now spec check)
edit_follows mark p now (ServerRemove name) seen = server_removed p now name (server_by (upstreams_of p) name)
edit_follows mark p now (ServerMode name mode) seen = server_put p now name mode (server_by (upstreams_of p) name)
edit_follows mark p now (PoolAdd name) seen = pool_added mark p now name
edit_follows mark p now (PoolPolicy name policy) seen = policy_put p now name policy (pool_named p.pools name)
edit_follows mark p now (CacheAttach name max shards max_ttl skips) seen =
    attached_follows mark p now (CacheAttach name max shards max_ttl skips) max max_ttl skips (pool_named p.pools name) (ap (λ (found : Option PoolId). with_attached (routes_of p) max max_ttl skips found) (named_alike name p.pools))
edit_follows mark p now (CacheDetach name) seen =
    detached_follows p now (CacheDetach name) (pool_named p.pools name) (ap (λ (found : Option PoolId). with_detached (routes_of p) found) (named_alike name p.pools))
edit_follows mark p now (Expunge name covered) seen = expunged_follows p now (Expunge name covered) covered (pool_named p.pools name) refl
edit_follows mark p now Show seen = refl
edit_follows mark p now (SetTimeout timeout) seen = refl

-- nor does a tick or a health result
pub tick_pools : (ups after : Upstreams) (now : ℕ) (w : Option Waiting) (answer : Answer) → Ends ups now w answer after → whole_of after ≡ whole_of ups
tick_pools ups after now None answer step = ap whole_of (left_of after answer _ step)
tick_pools ups after now (Some w) answer step = ap whole_of (left_of after answer _ step.2)

same_seen_if : {A : Type 0} (ups : Upstreams) (b : Bool) (x y : Backends × A) (seen : Seen) → seen_of (with_backends x.0 ups) ≡ seen → seen_of (with_backends y.0 ups) ≡ seen → seen_of (with_backends (if b then x else y).0 ups) ≡ seen
same_seen_if ups true x y seen first second = first
same_seen_if ups false x y seen first second = second

mark_pools : (up : Bool) (server : ServerId) (ups : Upstreams) → seen_of (with_mark up server ups) ≡ seen_of ups
mark_pools up server ups =
    let park = backends_of ups in
    same_seen_if ups (list_any (is_server server) park.servers) (record park { servers = change_server server (marked_as up) park.servers }, Ok tt) (park, Err park_faults.NoSuchServer) (seen_of ups) refl refl

change_pools : (server : ServerId) (change : Changed) (ups : Upstreams) → seen_of (with_change server change ups) ≡ seen_of ups
change_pools server changes.No ups = refl
change_pools server changes.Up ups = mark_pools true server ups
change_pools server changes.Down ups = mark_pools false server ups

result_pools_by : (ups : Upstreams) (server : ServerId) (ok : Bool) (at : ℕ) (check : Option Check) → seen_of (result_by ups server ok at check).0 ≡ seen_of ups
result_pools_by ups server ok at None = refl
result_pools_by ups server ok at (Some check) = change_pools server (result_of check.health ok).1 (with_check_at at (after_result ok check) ups)

result_pools : (ups : Upstreams) (server : ServerId) (ok : Bool) (at : Option ℕ) → seen_of (result_at ups server ok at).0 ≡ seen_of ups
result_pools ups server ok None = refl
result_pools ups server ok (Some at) = result_pools_by ups server ok at (slice_get ups.checks at)

step_follows : (p new : Plain) (event : Event) (reading : Reading) (answer : Answer) → IsSeen p → StepsAt p event reading answer new → Follow p event reading answer new
step_follows p new (Query now origin kind word bytes) (OfQuery reading) answer seen step = query_follows p new now origin kind word bytes reading answer step
step_follows p new (Query now origin kind word bytes) (OfReply reading) answer seen step = absurd step
step_follows p new (Query now origin kind word bytes) OfNone answer seen step = absurd step
step_follows p new (Reply now server lane bytes) (OfReply reading) answer seen step =
    ap routes_of step.2
    ∙ upstream_routes p (step.0, answer) (ap (λ (w : Seen × Shown). w.0) (reply_pools (marked answer) (upstreams_of p) step.0 server lane p.moment bytes reading answer step.1))
step_follows p new (Reply now server lane bytes) (OfQuery reading) answer seen step = absurd step
step_follows p new (Reply now server lane bytes) OfNone answer seen step = absurd step
step_follows p new (Tick now) OfNone answer seen step =
    ap routes_of step.2
    ∙ upstream_routes p (step.0, answer) (ap (λ (w : Seen × Shown). w.0) (tick_pools (upstreams_of p) step.0 p.moment (due p.moment p.outstanding) answer step.1))
step_follows p new (Tick now) (OfQuery reading) answer seen step = absurd step
step_follows p new (Tick now) (OfReply reading) answer seen step = absurd step
step_follows p new (HealthResult now server ok) OfNone answer seen step =
    ap routes_of (left_of new answer (upstream_changed p (result_step (upstreams_of p) server ok)) step)
    ∙ upstream_routes p (result_step (upstreams_of p) server ok) (result_pools (upstreams_of p) server ok (position (is_check server) p.checks))
step_follows p new (HealthResult now server ok) (OfQuery reading) answer seen step = absurd step
step_follows p new (HealthResult now server ok) (OfReply reading) answer seen step = absurd step
step_follows p new (Edit now command) OfNone answer seen step =
    ap routes_of (left_of new answer (edit_of (marked answer) p command) step)
    ∙ edit_follows (marked answer) p now command seen
    ∙ ap (λ (a : Answer). left_by (routes_of p) (Edit now command) OfNone a) (sym (told_of new answer (edit_of (marked answer) p command) step))
step_follows p new (Edit now command) (OfQuery reading) answer seen step = absurd step
step_follows p new (Edit now command) (OfReply reading) answer seen step = absurd step

pub routes_follow : SeenTwice → RoutesFollow
routes_follow twice old new event reading answer step = step_follows (at_plain (moment_of event) old) new event reading answer (seen_at twice (moment_of event) old) step

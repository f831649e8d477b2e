-- Refused events change nothing but the moment.
use Rattle.std.proofs.Common.{◌≡◌, ℕ, Bool, true, false, List, [], ◌∷◌, map, max, Option, None, Some, Result, Ok, Err, refl, sym, ◌∙◌, ap, arith, subst}
use Rattle.std.proofs.lemmas.Bool.{both_ways}
use Rattle.lb_wire.specs.Belongs.{belongs}
use Rattle.lb_wire.specs.declared.ids.CacheId.{CacheId}
use Rattle.lb_wire.specs.declared.ids.PoolId.{PoolId}
use Rattle.lb_wire.specs.declared.ids.ServerId.{ServerId}
use Rattle.lb_wire.specs.declared.transport.Lane.{Lane}
use Rattle.lb_wire.specs.declared.query.QueryView.{QueryView}
use Rattle.lb_wire.specs.declared.query.QueryFault.{QueryFault}
use Rattle.lb_wire.specs.declared.query.QueryFault.TheVariants as query_faults
use Rattle.lb_wire.specs.declared.reply.ReplyView.{ReplyView}
use Rattle.lb_wire.specs.declared.reply.ReplyFault.{ReplyFault}
use Rattle.lb_wire.specs.declared.reply.ReplyFault.TheVariants as reply_faults
use Rattle.lb_chain.specs.declared.fault.ChainFault.{ChainFault}
use Rattle.lb_chain.specs.declared.numbered.Numbered.{Numbered}
use Rattle.lb_chain.specs.declared.rule.Rule.{Rule}
use Rattle.lb_chain.specs.declared.walked.Walked.{Walked}
use Rattle.lb_chain.specs.Edits.{Rules, moved, removed}
use Rattle.lb_chain.specs.Seen.{seen_rules, SeenTwice}
use Rattle.lb_servers.specs.declared.fault.ParkFault.{ParkFault}
use Rattle.lb_servers.specs.declared.server.Server.{Server}
use Rattle.lb_servers.specs.Park.{Backends, added_pool, added_server, changed_pool, changed_server, cache_ready_of, removed_server}
use Rattle.lb_servers.specs.Pool.{cache_at, pool_named, with_policy}
use Rattle.lb_servers.specs.Server.{with_mode}
use Rattle.lb_table.specs.declared.entry.Entry.{Entry}
use Rattle.lb_table.specs.declared.entry.Waiting.{Waiting}
use Rattle.lb_table.specs.declared.place.Place.{Place}
use Rattle.lb_table.specs.Place.{at_place}
use Rattle.lb_table.specs.Table.{due, entry_at}
use Rattle.lb_health.specs.declared.health.Changed.{Changed}
use Rattle.lb_health.specs.declared.health.Changed.TheVariants as changes
use Rattle.lb_servers.specs.declared.server.Mode.{Mode}
use Rattle.lb_servers.specs.declared.spec.ServerSpec.{ServerSpec}
use Rattle.lb_cache.specs.declared.cached.Covered.{Covered}
use Rattle.lb_step.specs.declared.asked.Asked.{Asked}
use Rattle.lb_step.specs.declared.event.Event.{Event}
use Rattle.lb_step.specs.declared.event.Event.TheVariants.{Query, Reply, Tick, HealthResult, Edit}
use Rattle.lb_step.specs.declared.command.Command.{Command}
use Rattle.lb_step.specs.declared.command.Command.TheVariants.{RuleAdd, RuleRemove, RuleMove, ServerAdd, ServerRemove, ServerMode, PoolAdd, PoolPolicy, CacheAttach, CacheDetach, Expunge, SetTimeout, Show}
use Rattle.lb_step.specs.declared.answer.Answer.{Answer}
use Rattle.lb_step.specs.declared.answer.Note.{Note}
use Rattle.lb_step.specs.declared.answer.Note.TheVariants as notes
use Rattle.lb_step.specs.Answer.{change_told, is_refused, marked}
use Rattle.lb_step.specs.Plain.{Plain, at_plain, chain_of, upstreams_of, with_chain, with_upstreams}
use Rattle.lb_step.specs.Upstream.{Upstreams, added_checked, attached_cache, attached_if, backends_of, checked_by, detached_if, loaded_by, on_backends, put_into, removed_checked, server_of, unchecked_by, with_backends}
use Rattle.lb_step.specs.Edit.{attached_to, cache_told, detached_from, edit_of, expunged_from, expunged_of, place_or_end, pool_edited, rule_added, rule_by, rules_told, server_by, server_edited, servers_told, upstream_changed, upstream_edited, upstream_told}
use Rattle.lb_step.specs.Query.{QuerySteps, ReadSteps, WalkedSteps, is_transfer, walked_of}
use Rattle.lb_step.specs.Reading.{Reading, OfNone, OfQuery, OfReply, moment_of, viewed}
use Rattle.lb_step.specs.Reply.{BelongsOrNot, HeldAgainst, ReplySteps}
use Rattle.lb_step.specs.Expiry.{Ends}
use Rattle.lb_step.specs.Health.{result_step, result_taken, result_told}
use Rattle.lb_step.specs.declared.check.CheckSpec.{CheckSpec}
use Rattle.lb_step.proofs.ChainEdits.{false_true}
use Rattle.lb_step.specs.Step.{RefusalsChangeNothing, StepsAt, asked_at}
use Rattle.lb_step.proofs.Follows.{Follows, refuses, follows_added, follows_changed_pool, follows_changed_server, follows_moved, follows_pool, follows_removed, follows_removed_server, follows_server}
use Rattle.lb_step.proofs.Forwards.{ended_plain}

-- a state in which no pass is left that no longer counts
abbrev pub IsSeen : Plain → Type 0
IsSeen p = seen_rules p.moment p.rules ≡ p.rules

pub seen_at : SeenTwice → (now : ℕ) (old : Plain) → IsSeen (at_plain now old)
seen_at twice now old = twice (max old.moment now) (max old.moment now) old.rules (omega (arith))

-- the state with its own chain, and with its own servers and pools
pub own_chain : (p : Plain) → IsSeen p → with_chain (chain_of p) p ≡ p
own_chain p seen = ap (λ (rules : List Numbered). record p { rules = rules }) seen

pub uncounted : (t : List Waiting) (servers : List Server) → map server_of (map (loaded_by t) servers) ≡ servers
uncounted t [] = refl
uncounted t (s ∷ servers) = ap (λ (ss : List Server). s ∷ ss) (uncounted t servers)

pub own_backends : (ups : Upstreams) → with_backends (backends_of ups) ups ≡ ups
own_backends ups = ap (λ (servers : List Server). record ups { servers = servers }) (uncounted ups.outstanding ups.servers)

rules_refuse : {A : Type 0} (note : A → Note) (r : Result A ChainFault) → is_refused (rules_told note r) ≡ refuses r
rules_refuse note (Ok x) = refl
rules_refuse note (Err fault) = refl

servers_refuse : {A : Type 0} (note : A → Note) (r : Result A ParkFault) → is_refused (servers_told note r) ≡ refuses r
servers_refuse note (Ok x) = refl
servers_refuse note (Err fault) = refl

-- a refused edit of the chain, and one of the servers and pools
kept_rules : {A : Type 0} (note : A → Note) (p : Plain) (x y : Rules × Result A ChainFault) → IsSeen p → Follows (chain_of p) x y → is_refused (rules_told note x.1) ≡ true → with_chain x.0 p ≡ p
kept_rules note p x y seen follows is = ap (λ (c : Rules). with_chain c p) (follows.kept (sym (rules_refuse note x.1) ∙ is)) ∙ own_chain p seen

kept_backends : {A : Type 0} (ups : Upstreams) (x y : Backends × Result A ParkFault) → Follows (backends_of ups) x y → refuses x.1 ≡ true → with_backends x.0 ups ≡ ups
kept_backends ups x y follows is = ap (λ (b : Backends). with_backends b ups) (follows.kept is) ∙ own_backends ups

kept_upstream : {A : Type 0} (note : A → Note) (ups : Upstreams) (x y : Backends × Result A ParkFault) → Follows (backends_of ups) x y → is_refused (servers_told note x.1) ≡ true → with_backends x.0 ups ≡ ups
kept_upstream note ups x y follows is = kept_backends ups x y follows (sym (servers_refuse note x.1) ∙ is)

-- with the health check of a server that was refused, and without that of one that was not removed
kept_checked : (check : CheckSpec) (ups : Upstreams) (done : Upstreams × Result ServerId ParkFault) → (refuses done.1 ≡ true → done.0 ≡ ups) → refuses done.1 ≡ true → (checked_by check done).0 ≡ ups
kept_checked check ups (left, Ok id) kept is = absurd (false_true is)
kept_checked check ups (left, Err fault) kept is = kept is

kept_unchecked : (id : ServerId) (ups : Upstreams) (done : Upstreams × Result (Unit {0}) ParkFault) → (refuses done.1 ≡ true → done.0 ≡ ups) → refuses done.1 ≡ true → (unchecked_by id done).0 ≡ ups
kept_unchecked id ups (left, Ok x) kept is = absurd (false_true is)
kept_unchecked id ups (left, Err fault) kept is = kept is

kept_new : (mark : Bool) (ups : Upstreams) (spec : ServerSpec) (check : CheckSpec) → refuses (added_checked mark ups spec check).1 ≡ true → (added_checked mark ups spec check).0 ≡ ups
kept_new mark ups spec check is =
    kept_checked check ups (on_backends ups (added_server mark (backends_of ups) spec)) (kept_backends ups (added_server mark (backends_of ups) spec) _ (follows_server mark (backends_of ups) spec)) is

kept_removed : (ups : Upstreams) (id : ServerId) → refuses (removed_checked ups id).1 ≡ true → (removed_checked ups id).0 ≡ ups
kept_removed ups id is =
    kept_unchecked id ups (on_backends ups (removed_server (backends_of ups) id)) (kept_backends ups (removed_server (backends_of ups) id) _ (follows_removed_server (backends_of ups) id)) is

kept_put : (mode : Mode) (ups : Upstreams) (id : ServerId) → refuses (put_into mode ups id).1 ≡ true → (put_into mode ups id).0 ≡ ups
kept_put mode ups id is = kept_backends ups (changed_server (with_mode mode) (backends_of ups) id) _ (follows_changed_server (with_mode mode) (backends_of ups) id) is

kept_added : (mark : Bool) (p : Plain) (place : Option ℕ) (rule : Option Rule) → IsSeen p → is_refused (rule_added mark p place rule).1 ≡ true → (rule_added mark p place rule).0 ≡ p
kept_added mark p place None seen is = refl
kept_added mark p place (Some rule) seen is = kept_rules notes.RuleAdded p _ _ seen (follows_added mark (chain_of p) (place_or_end place p.rules) rule) is

kept_server : (note : ServerId → Note) (edit : Upstreams → ServerId → Upstreams × Result (Unit {0}) ParkFault) (ups : Upstreams) (id : Option ServerId) →
    ((ups : Upstreams) (id : ServerId) → refuses (edit ups id).1 ≡ true → (edit ups id).0 ≡ ups) → is_refused (server_edited note edit ups id).1 ≡ true → (server_edited note edit ups id).0 ≡ ups
kept_server note edit ups None keeps is = refl
kept_server note edit ups (Some id) keeps is = keeps ups id (sym (servers_refuse (λ _. note id) (edit ups id).1) ∙ is)

kept_pool : (note : Note) (edit : Backends → PoolId → Backends × Result (Unit {0}) ParkFault) (ups : Upstreams) (pool : Option PoolId) →
    ((park : Backends) (pool : PoolId) → Follows park (edit park pool) (edit park pool)) → is_refused (pool_edited note edit ups pool).1 ≡ true → (pool_edited note edit ups pool).0 ≡ ups
kept_pool note edit ups None follows is = refl
kept_pool note edit ups (Some pool) follows is = kept_upstream (λ _. note) ups (edit (backends_of ups) pool) (edit (backends_of ups) pool) (follows (backends_of ups) pool) is

-- a refused edit of a cache
kept_replaced : (mark : Bool) (ups : Upstreams) (pool : PoolId) (max max_ttl : ℕ) (skips : List ℕ) (ready : Result (Unit {0}) ParkFault) → refuses (attached_if mark ups pool max max_ttl skips ready).1 ≡ true → (attached_if mark ups pool max max_ttl skips ready).0 ≡ ups
kept_replaced mark ups pool max max_ttl skips (Err fault) is = refl
kept_replaced true ups pool max max_ttl skips (Ok ready) is = refl
kept_replaced false ups pool max max_ttl skips (Ok ready) is = absurd (false_true is)

kept_attached : (mark : Bool) (ups : Upstreams) (max max_ttl : ℕ) (skips : List ℕ) (pool : Option PoolId) → is_refused (attached_to mark ups max max_ttl skips pool).1 ≡ true → (attached_to mark ups max max_ttl skips pool).0 ≡ ups
kept_attached mark ups max max_ttl skips None is = refl
kept_attached mark ups max max_ttl skips (Some pool) is =
    kept_replaced mark ups pool max max_ttl skips (cache_ready_of (backends_of ups) pool) (sym (servers_refuse notes.CacheAttached (attached_cache mark ups pool max max_ttl skips).1) ∙ is)

kept_taken : (ups : Upstreams) (pool : PoolId) (cache : Option CacheId) → is_refused (cache_told notes.CacheDetached (detached_if ups pool cache).1) ≡ true → (detached_if ups pool cache).0 ≡ ups
kept_taken ups pool None is = refl
kept_taken ups pool (Some id) is = absurd (false_true is)

kept_detached : (ups : Upstreams) (pool : Option PoolId) → is_refused (detached_from ups pool).1 ≡ true → (detached_from ups pool).0 ≡ ups
kept_detached ups None is = refl
kept_detached ups (Some pool) is = kept_taken ups pool (cache_at ups.pools pool.0) is

kept_emptied : (ups : Upstreams) (covered : Covered) (cache : Option CacheId) → is_refused (expunged_of ups covered cache).1 ≡ true → (expunged_of ups covered cache).0 ≡ ups
kept_emptied ups covered None is = refl
kept_emptied ups covered (Some id) is = absurd (false_true is)

kept_expunged : (ups : Upstreams) (covered : Covered) (pool : Option PoolId) → is_refused (expunged_from ups covered pool).1 ≡ true → (expunged_from ups covered pool).0 ≡ ups
kept_expunged ups covered None is = refl
kept_expunged ups covered (Some pool) is = kept_emptied ups covered (cache_at ups.pools pool.0) is

-- the state with what stands upstream as it was
kept_changed : (p : Plain) (done : Upstreams × Answer) → done.0 ≡ upstreams_of p → (upstream_changed p done).0 ≡ p
kept_changed p done is = ap (λ (u : Upstreams). with_upstreams u p) is

-- a refused command leaves the state
kept_command : (mark : Bool) (p : Plain) (command : Command) → IsSeen p → is_refused (edit_of mark p command).1 ≡ true → (edit_of mark p command).0 ≡ p
kept_command mark p (RuleAdd place rule) seen is = kept_added mark p place (rule_by (pool_named p.pools) rule) seen is
kept_command mark p (RuleRemove id) seen is = kept_rules (λ _. notes.RuleRemoved id) p (removed (chain_of p) id) (removed (chain_of p) id) seen (follows_removed (chain_of p) id) is
kept_command mark p (RuleMove id place) seen is = kept_rules (λ _. notes.RuleMoved id) p (moved mark (chain_of p) id place) (moved false (chain_of p) id place) seen (follows_moved mark (chain_of p) id place) is
kept_command mark p (ServerAdd spec check) seen is =
    let ups = upstreams_of p in
    kept_changed p (upstream_told notes.ServerAdded (added_checked mark ups spec check)) (kept_new mark ups spec check (sym (servers_refuse notes.ServerAdded (added_checked mark ups spec check).1) ∙ is))
kept_command mark p (ServerRemove name) seen is =
    let ups = upstreams_of p in
    kept_changed p (server_edited notes.ServerRemoved removed_checked ups (server_by ups name)) (kept_server notes.ServerRemoved removed_checked ups (server_by ups name) kept_removed is)
kept_command mark p (ServerMode name mode) seen is =
    let ups = upstreams_of p in
    let note : ServerId → Note = λ id. notes.ServerMode id mode in
    kept_changed p (server_edited note (put_into mode) ups (server_by ups name)) (kept_server note (put_into mode) ups (server_by ups name) (kept_put mode) is)
kept_command mark p (PoolAdd name) seen is =
    let ups = upstreams_of p in
    let note : PoolId → Note = λ _. notes.PoolAdded name in
    kept_changed p (upstream_edited note ups (added_pool mark (backends_of ups) name)) (kept_upstream note ups _ _ (follows_pool mark (backends_of ups) name) is)
kept_command mark p (PoolPolicy name policy) seen is =
    let ups = upstreams_of p in
    kept_changed p (pool_edited (notes.PoolPolicy name policy) (changed_pool (with_policy policy)) ups (pool_named p.pools name)) (kept_pool (notes.PoolPolicy name policy) (changed_pool (with_policy policy)) ups (pool_named p.pools name) (follows_changed_pool (with_policy policy)) is)
kept_command mark p (CacheAttach name max shards max_ttl skips) seen is =
    let ups = upstreams_of p in
    kept_changed p (attached_to mark ups max max_ttl skips (pool_named p.pools name)) (kept_attached mark ups max max_ttl skips (pool_named p.pools name) is)
kept_command mark p (CacheDetach name) seen is =
    let ups = upstreams_of p in
    kept_changed p (detached_from ups (pool_named p.pools name)) (kept_detached ups (pool_named p.pools name) is)
kept_command mark p (Expunge name covered) seen is =
    let ups = upstreams_of p in
    kept_changed p (expunged_from ups covered (pool_named p.pools name)) (kept_expunged ups covered (pool_named p.pools name) is)
kept_command mark p Show seen is = absurd (false_true is)
kept_command mark p (SetTimeout timeout) seen is = absurd (false_true is)

pub left_of : {State : Type 0} (new : State) (answer : Answer) (done : State × Answer) → (new, answer) ≡ done → new ≡ done.0
left_of {State} new answer done is = ap (λ (d : State × Answer). d.0) is

pub told_of : {State : Type 0} (new : State) (answer : Answer) (done : State × Answer) → (new, answer) ≡ done → answer ≡ done.1
told_of {State} new answer done is = ap (λ (d : State × Answer). d.1) is

-- a query that is refused met lack of memory
kept_walk : (mark : Bool) (p new : Plain) (asked : Asked) (bytes : List ℕ) (view : QueryView) (walked : Walked) (answer : Answer) →
    WalkedSteps mark p asked bytes view walked answer new → is_refused answer ≡ true → new ≡ p
kept_walk true p new asked bytes view walked answer step is = left_of new answer _ step
kept_walk false p new asked bytes view walked answer step is =
    absurd (both_ways (is_refused answer) (ended_plain (upstreams_of p) step.0 asked bytes view walked walked.rule answer step.1).1 is)

kept_read : (transfer mark : Bool) (p new : Plain) (asked : Asked) (bytes : List ℕ) (view : QueryView) (answer : Answer) →
    ReadSteps transfer mark p asked bytes view answer new → is_refused answer ≡ true → new ≡ p
kept_read true mark p new asked bytes view answer step is = left_of new answer _ step
kept_read false mark p new asked bytes view answer step is = kept_walk mark p new asked bytes view (walked_of p asked view) answer step is

kept_query : (mark : Bool) (p new : Plain) (asked : Asked) (bytes : List ℕ) (reading : Result QueryView QueryFault) (answer : Answer) →
    QuerySteps mark p asked bytes reading answer new → is_refused answer ≡ true → new ≡ p
kept_query mark p new asked bytes (Err query_faults.Short) answer step is = left_of new answer _ step
kept_query mark p new asked bytes (Err query_faults.NotQuery) answer step is = left_of new answer _ step
kept_query mark p new asked bytes (Err query_faults.Malformed) answer step is = left_of new answer _ step
kept_query mark p new asked bytes (Ok view) answer step is = kept_read (is_transfer view.qtype.0) mark p new asked bytes view answer step is

-- no reply is refused, nor does its answer tell the change of a server
abbrev pub Untold : Answer → Type 0
Untold answer = (is_refused answer ≡ false) × ((server : ServerId) → change_told server answer ≡ changes.No)

taken_belongs : (fits mark : Bool) (ups after : Upstreams) (place : Place) (moment : ℕ) (bytes : List ℕ) (view : ReplyView) (entry : Entry) (answer : Answer) →
    BelongsOrNot fits mark ups place moment bytes view entry answer after → Untold answer
taken_belongs true mark ups after place moment bytes view entry answer step = subst Untold (sym (told_of after answer _ step.3)) (refl, λ s. refl)
taken_belongs false mark ups after place moment bytes view entry answer step = subst Untold (sym (told_of after answer _ step)) (refl, λ s. refl)

taken_held : (mark : Bool) (ups after : Upstreams) (place : Place) (moment : ℕ) (bytes : List ℕ) (view : ReplyView) (entry : Option Entry) (answer : Answer) →
    HeldAgainst mark ups place moment bytes view entry answer after → Untold answer
taken_held mark ups after place moment bytes view None answer step = subst Untold (sym (told_of after answer _ step)) (refl, λ s. refl)
taken_held mark ups after place moment bytes view (Some entry) answer step =
    taken_belongs (belongs view entry.name entry.qtype entry.qclass) mark ups after place moment bytes view entry answer step

pub taken_reply : (mark : Bool) (ups after : Upstreams) (server : ServerId) (lane : Lane) (moment : ℕ) (bytes : List ℕ) (reading : Result ReplyView ReplyFault) (answer : Answer) →
    ReplySteps mark ups server lane moment bytes reading answer after → Untold answer
taken_reply mark ups after server lane moment bytes (Err reply_faults.Short) answer step = subst Untold (sym (told_of after answer _ step)) (refl, λ s. refl)
taken_reply mark ups after server lane moment bytes (Err reply_faults.NotReply) answer step = subst Untold (sym (told_of after answer _ step)) (refl, λ s. refl)
taken_reply mark ups after server lane moment bytes (Ok view) answer step =
    taken_held mark ups after (at_place server lane view.id) moment bytes view (entry_at ups.outstanding (at_place server lane view.id)) answer step

-- no tick and no health result is refused
pub taken_tick : (ups after : Upstreams) (now : ℕ) (w : Option Waiting) (answer : Answer) → Ends ups now w answer after → Untold answer
taken_tick ups after now None answer step = subst Untold (sym (told_of after answer _ step)) (refl, λ s. refl)
taken_tick ups after now (Some w) answer step = subst Untold (sym (told_of after answer _ step.2)) (refl, λ s. refl)

taken_result : (server : ServerId) (change : Option Changed) → is_refused (result_told server change) ≡ false
taken_result server None = refl
taken_result server (Some changes.No) = refl
taken_result server (Some changes.Up) = refl
taken_result server (Some changes.Down) = refl

kept_step : (p new : Plain) (event : Event) (reading : Reading) (answer : Answer) → IsSeen p → StepsAt p event reading answer new → is_refused answer ≡ true → new ≡ p
kept_step p new (Query now origin kind word bytes) (OfQuery reading) answer seen step is = kept_query (marked answer) p new (asked_at p.moment origin kind word) bytes (viewed reading) answer step is
kept_step p new (Query now origin kind word bytes) (OfReply reading) answer seen step is = absurd step
kept_step p new (Query now origin kind word bytes) OfNone answer seen step is = absurd step
kept_step p new (Reply now server lane bytes) (OfReply reading) answer seen step is =
    absurd (both_ways (is_refused answer) (taken_reply (marked answer) (upstreams_of p) step.0 server lane p.moment bytes reading answer step.1).0 is)
kept_step p new (Reply now server lane bytes) (OfQuery reading) answer seen step is = absurd step
kept_step p new (Reply now server lane bytes) OfNone answer seen step is = absurd step
kept_step p new (Tick now) OfNone answer seen step is = absurd (both_ways (is_refused answer) (taken_tick (upstreams_of p) step.0 p.moment (due p.moment p.outstanding) answer step.1).0 is)
kept_step p new (Tick now) (OfQuery reading) answer seen step is = absurd step
kept_step p new (Tick now) (OfReply reading) answer seen step is = absurd step
kept_step p new (HealthResult now server ok) OfNone answer seen step is =
    absurd (both_ways (is_refused answer) (ap is_refused (told_of new answer (upstream_changed p (result_step (upstreams_of p) server ok)) step) ∙ taken_result server (result_taken (upstreams_of p) server ok).1) is)
kept_step p new (HealthResult now server ok) (OfQuery reading) answer seen step is = absurd step
kept_step p new (HealthResult now server ok) (OfReply reading) answer seen step is = absurd step
kept_step p new (Edit now command) OfNone answer seen step is =
    left_of new answer (edit_of (marked answer) p command) step
    ∙ kept_command (marked answer) p command seen (sym (ap is_refused (told_of new answer (edit_of (marked answer) p command) step)) ∙ is)
kept_step p new (Edit now command) (OfQuery reading) answer seen step is = absurd step
kept_step p new (Edit now command) (OfReply reading) answer seen step is = absurd step

pub refusals : SeenTwice → RefusalsChangeNothing
refusals twice old new event reading answer step is = kept_step (at_plain (moment_of event) old) new event reading answer (seen_at twice (moment_of event) old) step is

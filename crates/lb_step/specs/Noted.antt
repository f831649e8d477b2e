-- What a step leaves beside the plain state: of a query the rule that ended its walk and the cache that was asked, and the query
-- that ended at a reply or a tick.
use Rattle.std.specs.Prelude.{if◌then◌else◌, ◌≡◌, Bool, true, false, List, Option, None, Some, option_map, Result, Ok, Err}
use Rattle.lb_wire.specs.declared.ids.CacheId.{CacheId}
use Rattle.lb_wire.specs.declared.ids.PoolId.{PoolId}
use Rattle.lb_wire.specs.declared.ids.RuleId.{RuleId}
use Rattle.lb_wire.specs.declared.ids.ServerId.{ServerId}
use Rattle.lb_wire.specs.declared.transport.Lane.{Lane}
use Rattle.lb_wire.specs.declared.query.QueryView.{QueryView}
use Rattle.lb_wire.specs.declared.query.QueryFault.{QueryFault}
use Rattle.lb_wire.specs.declared.reply.ReplyView.{ReplyView}
use Rattle.lb_wire.specs.declared.reply.ReplyFault.{ReplyFault}
use Rattle.lb_chain.specs.declared.walked.Verdict.{Verdict}
use Rattle.lb_chain.specs.declared.walked.Verdict.TheVariants as verdicts
use Rattle.lb_chain.specs.declared.walked.Walked.{Walked}
use Rattle.lb_servers.specs.Pool.{cache_at}
use Rattle.lb_table.specs.declared.entry.Entry.{Entry}
use Rattle.lb_table.specs.declared.entry.Waiting.{Waiting}
use Rattle.lb_table.specs.Place.{at_place}
use Rattle.lb_table.specs.Table.{due, entry_at}
use Rattle.lb_step.specs.declared.asked.Asked.{Asked}
use Rattle.lb_step.specs.declared.asked.Routed.{Routed}
use Rattle.lb_step.specs.declared.answer.Answer.{Answer}
use Rattle.lb_step.specs.declared.answer.Answer.TheVariants.{Deliver}
use Rattle.lb_step.specs.declared.event.Event.{Event}
use Rattle.lb_step.specs.declared.event.Event.TheVariants.{Query, Reply, Tick}
use Rattle.lb_step.specs.declared.noted.Noted.{Noted}
use Rattle.lb_step.specs.declared.noted.Served.{Served}
use Rattle.lb_step.specs.Answer.{marked}
use Rattle.lb_step.specs.Look.{may_use}
use Rattle.lb_step.specs.Plain.{Plain, at_plain, upstreams_of}
use Rattle.lb_step.specs.Query.{default_pool, is_transfer, to_pool, walked_of}
use Rattle.lb_step.specs.Reading.{Reading, OfNone, OfQuery, OfReply, ReadsEvent, moment_of, viewed}
use Rattle.lb_step.specs.Step.{asked_at}
use Rattle.lb_step.specs.Upstream.{Upstreams}

abbrev pub note : Option RuleId → Option CacheId → Option Served → Noted
note rule cache served = record { rule = rule; cache = cache; served = served }

abbrev pub no_note : Noted
no_note = note None None None

-- the pool that is to answer a query whose walk ended so
abbrev pub verdict_pool : Verdict → Option PoolId
verdict_pool verdicts.Allow = Some default_pool
verdict_pool (verdicts.Pool pool) = Some pool
verdict_pool _ = None

abbrev pub pool_asked : Option RuleId → Verdict → Option PoolId
pool_asked None verdict = Some default_pool
pool_asked (Some rule) verdict = verdict_pool verdict

-- the cache in which a pool looks for a reply to a query
abbrev pub cache_asked : Upstreams → QueryView → Routed → Option CacheId
cache_asked ups view routed = if may_use view routed then cache_at ups.pools routed.pool.0 else None

abbrev pub asked_by : Upstreams → QueryView → Walked → Option PoolId → Option CacheId
asked_by ups view walked None = None
asked_by ups view walked (Some pool) = cache_asked ups view (to_pool walked pool)

-- the rule that ended a walk, whatever its verdict, and the cache that was asked; nothing where memory was lacking
abbrev pub walk_noted : Bool → Upstreams → QueryView → Walked → Noted
walk_noted true ups view walked = no_note
walk_noted false ups view walked = note walked.rule (asked_by ups view walked (pool_asked walked.rule walked.verdict)) None

-- what a query leaves that is walked through the rules, by its walk
abbrev pub rules_noted : Bool → Plain → Asked → QueryView → Noted
rules_noted mark plain asked view = walk_noted mark (upstreams_of plain) view (walked_of plain asked view)

-- a transfer is walked through no rule
abbrev pub read_noted : Bool → Bool → Plain → Asked → QueryView → Noted
read_noted true mark plain asked view = no_note
read_noted false mark plain asked view = rules_noted mark plain asked view

-- what a query leaves whose bytes read so
abbrev pub query_noted : Bool → Plain → Asked → Result QueryView QueryFault → Noted
query_noted mark plain asked (Err fault) = no_note
query_noted mark plain asked (Ok view) = read_noted (is_transfer view.qtype.0) mark plain asked view

-- the server of a query that waited, and when it was sent
abbrev pub served_at : Waiting → Served
served_at w = record { server = w.place.server; began = w.entry.began }

abbrev pub served_by : ServerId → Entry → Served
served_by server entry = record { server = server; began = entry.began }

-- the query that a reply was delivered to, where it was
abbrev pub served_if : Answer → ServerId → Option Entry → Option Served
served_if (Deliver origin bytes kept) server waits = option_map (served_by server) waits
served_if _ server waits = None

abbrev pub reply_served : Answer → List Waiting → ServerId → Lane → Result ReplyView ReplyFault → Option Served
reply_served answer outstanding server lane (Err fault) = None
reply_served answer outstanding server lane (Ok view) = served_if answer server (entry_at outstanding (at_place server lane view.id))

-- what a step at the moment of its event leaves
abbrev pub noted_at : Plain → Event → Reading → Answer → Noted
noted_at plain (Query now origin kind word bytes) (OfQuery reading) answer = query_noted (marked answer) plain (asked_at plain.moment origin kind word) (viewed reading)
noted_at plain (Reply now server lane bytes) (OfReply reading) answer = note None None (reply_served answer plain.outstanding server lane reading)
noted_at plain (Tick now) OfNone answer = note None None (option_map served_at (due plain.moment plain.outstanding))
noted_at plain _ _ answer = no_note

-- a step from this state leaves this, by what the octets of its event read as
abbrev pub IsNoted : Plain → Event → Answer → Noted → Type 0
IsNoted old event answer noted = (reading : Reading) × ReadsEvent event reading × (noted ≡ noted_at (at_plain (moment_of event) old) event reading answer)

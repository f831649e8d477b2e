-- Look-up: what a query asks of its pool's cache, and the answer that a kept reply gives it.
use Rattle.std.specs.Prelude.{if◌then◌else◌, ◌≡◌, ℕ, Bool, true, false, not, ◌==◌, ◌&&◌, List, Option, None, Some, option_map}
use Rattle.lb_wire.specs.Aging.{aged}
use Rattle.lb_wire.specs.Flags.{opcode_of}
use Rattle.lb_wire.specs.Key.{key_of_message, with_name}
use Rattle.lb_wire.specs.Message.{Message, Lays, message_octets}
use Rattle.lb_wire.specs.Query.{undesired, view_of, without_recursion}
use Rattle.lb_wire.specs.declared.ids.CacheId.{CacheId}
use Rattle.lb_wire.specs.declared.key.Key.{Key}
use Rattle.lb_wire.specs.declared.query.QueryView.{QueryView}
use Rattle.lb_wire.specs.declared.transport.Kind.{Kind}
use Rattle.lb_servers.specs.Pool.{cache_at}
use Rattle.lb_step.specs.declared.asked.Asked.{Asked}
use Rattle.lb_step.specs.declared.asked.Routed.{Routed}
use Rattle.lb_step.specs.declared.answer.Answer.{Answer}
use Rattle.lb_step.specs.declared.answer.Answer.TheVariants.{Local}
use Rattle.lb_step.specs.declared.answer.LocalReason.TheVariants as locals
use Rattle.lb_step.specs.Answer.{Leaves}
use Rattle.lb_cache.specs.Caches.{looked_in, skips_of}
use Rattle.lb_cache.specs.declared.cached.AttachedCache.{AttachedCache}
use Rattle.lb_step.specs.Forward.{Forwards}
use Rattle.lb_step.specs.Upstream.{Upstreams}

-- whether a query may use a cache: its opcode is 0, and no rule says otherwise
abbrev pub may_use : QueryView → Routed → Bool
may_use view routed = opcode_of view.flags.0 == 0 && not routed.skip_cache

-- the parts of the message to be sent, and its octets: RD is 0 if a rule says so
abbrev pub parts_sent : Bool → Message → Message
parts_sent true m = undesired m
parts_sent false m = m

abbrev pub octets_sent : Bool → List ℕ → List ℕ
octets_sent true octets = without_recursion octets
octets_sent false octets = octets

-- what a query of these parts asks of the cache that its pool has: the cache, and the key of the
-- message to be sent by the codes that this cache lists
abbrev pub ask_of : List AttachedCache → Option CacheId → Kind → Message → Routed → Option (CacheId × Key)
ask_of caches cache kind m routed =
    if may_use (view_of m) routed then option_map (λ id. (id, key_of_message (skips_of id caches) kind (parts_sent routed.no_recurse m))) cache
    else None

-- the octets of a hit: the kept ones, each TTL outside OPT lowered by so many seconds, with the query's ID and its spelling of
-- the question name
abbrev pub answering : QueryView → ℕ → Message → Message
answering view secs m = let old = with_name view.name (aged secs m) in record old { header = record old.header { id = view.id } }

abbrev pub Hits : QueryView → List ℕ → ℕ → List ℕ → Type 0
Hits view kept secs octets = (m : Message) × Lays kept m × (octets ≡ message_octets (answering view secs m))

-- what a look-up leads to: where a reply lives, it answers; else a server of the pool is to answer, and the cache and key are
-- told to what is kept of the query
abbrev pub FoundAnswers : Upstreams → Asked → List ℕ → QueryView → Routed → CacheId × Key → Option (List ℕ × ℕ) → Answer → Upstreams → Type 0
FoundAnswers ups asked bytes view routed ask None answer new = Forwards ups asked bytes view routed (Some ask) answer new
FoundAnswers ups asked bytes view routed ask (Some hit) answer new = (octets : List ℕ) × Hits view hit.0 hit.1 octets × Leaves new answer (ups, Local octets locals.Hit)

-- a query that asks this of a cache, or nothing of any
abbrev pub AskAnswers : Upstreams → Asked → List ℕ → QueryView → Routed → Option (CacheId × Key) → Answer → Upstreams → Type 0
AskAnswers ups asked bytes view routed None answer new = Forwards ups asked bytes view routed None answer new
AskAnswers ups asked bytes view routed (Some ask) answer new = FoundAnswers ups asked bytes view routed ask (looked_in ups.kept ask.0 ask.1 asked.moment) answer new

-- a query that a pool is to answer, by its cache or by a server
abbrev pub PoolAnswers : Upstreams → Asked → List ℕ → QueryView → Routed → Answer → Upstreams → Type 0
PoolAnswers ups asked bytes view routed answer new =
    (m : Message) × Lays bytes m × (view ≡ view_of m) × AskAnswers ups asked bytes view routed (ask_of ups.caches (cache_at ups.pools routed.pool.0) asked.kind m routed) answer new

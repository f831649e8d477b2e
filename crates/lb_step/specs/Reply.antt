-- Replies: the query that a reply belongs to is found by server, lane and ID, and its client gets the reply, which may be kept
-- in the cache that the query asked.
use Rattle.std.specs.Prelude.{◌≡◌, ℕ, Bool, true, false, ◌==◌, nat_lt, List, Option, None, Some, Result, Ok, Err, if◌then◌else◌}
use Rattle.lb_wire.specs.BigEndian.{number_at}
use Rattle.lb_wire.specs.Belongs.{belongs}
use Rattle.lb_wire.specs.Reply.{ReadsReply, respelled}
use Rattle.lb_wire.specs.declared.ids.CacheId.{CacheId}
use Rattle.lb_wire.specs.declared.ids.ServerId.{ServerId}
use Rattle.lb_wire.specs.declared.kept.Kept.{Kept}
use Rattle.lb_wire.specs.declared.kept.Kept.TheVariants as kept
use Rattle.lb_wire.specs.declared.key.Key.{Key}
use Rattle.lb_wire.specs.declared.transport.Lane.{Lane}
use Rattle.lb_wire.specs.declared.reply.ReplyView.{ReplyView}
use Rattle.lb_wire.specs.declared.reply.ReplyFault.{ReplyFault}
use Rattle.lb_wire.specs.declared.reply.ReplyFault.TheVariants as reply_faults
use Rattle.lb_table.specs.declared.place.Place.{Place}
use Rattle.lb_table.specs.declared.entry.Entry.{Entry}
use Rattle.lb_table.specs.Place.{at_place}
use Rattle.lb_table.specs.Table.{entry_at, taken_at, waits_at}
use Rattle.lb_step.specs.declared.answer.Answer.{Answer}
use Rattle.lb_step.specs.declared.answer.Answer.TheVariants.{Deliver, Ignored}
use Rattle.lb_step.specs.declared.answer.IgnoreReason.TheVariants as ignores
use Rattle.lb_cache.specs.declared.cached.AttachedCache.{AttachedCache}
use Rattle.lb_cache.specs.declared.cached.KeptReply.{KeptReply}
use Rattle.lb_step.specs.Answer.{Leaves, marked}
use Rattle.lb_cache.specs.Caches.{CacheLists, cache_with, kept_in}
use Rattle.lb_step.specs.Forward.{with_id}
use Rattle.lb_step.specs.Lifetime.{LivesFor}
use Rattle.lb_step.specs.Upstream.{Upstreams, no_upstreams, with_caches}

-- the outstanding queries without the one at a place
abbrev pub without : Place → Upstreams → Upstreams
without place ups = record ups { outstanding = taken_at ups.outstanding (waits_at place ups.outstanding) }

-- caches with what they keep, and nothing else: what keeping a reply looks at and changes
abbrev pub only_caches : CacheLists → Upstreams
only_caches lists = with_caches lists no_upstreams

-- a reply with the query's spelling of the question name, where it has a question
abbrev pub spelled_for : Bool → List (List ℕ) → List ℕ → List ℕ
spelled_for true name bytes = respelled name bytes
spelled_for false name bytes = bytes

-- a reply as its client gets it: with the query's ID and spelling; nothing else is changed
abbrev pub delivered_octets : ReplyView → Entry → List ℕ → List ℕ
delivered_octets view entry bytes = with_id (number_at entry.asked 0) (spelled_for (view.questions == 1) entry.name bytes)

-- a list of kept replies with one more, which a cache keeps under a key from a moment on for so many
-- seconds; and what becomes of that reply
abbrev pub kept_under : Bool → AttachedCache → List KeptReply → Key → List ℕ → ℕ → ℕ → List KeptReply × Kept
kept_under lacking cache list key bytes life moment =
    kept_in lacking cache.max list (record { cache = cache.id; reply = record { key = key; bytes = bytes; moment = moment; life = life } }) moment

-- a reply under a cache and key, kept or not: a life of 0 keeps none
abbrev pub kept_for : Bool → Upstreams → ℕ → List ℕ → AttachedCache → Key → ℕ → List KeptReply × Kept
kept_for lacking ups moment bytes cache key life =
    if nat_lt 0 life then kept_under lacking cache ups.kept key bytes life moment else (ups.kept, kept.No)

-- a list and what is told of it are what keeping gives
abbrev pub IsLeft : List KeptReply → Kept → List KeptReply × Kept → Type 0
IsLeft new told done = (new, told) ≡ done

-- what becomes of a reply at the cache that its query asked, where it is still attached: it is kept as the server sent it, for
-- as long as its table of lifetimes says
abbrev pub KeepsAt : Bool → Upstreams → ℕ → List ℕ → ReplyView → Key → Option AttachedCache → Kept → List KeptReply → Type 0
KeepsAt lacking ups moment bytes view key None told new = IsLeft new told (ups.kept, kept.No)
KeepsAt lacking ups moment bytes view key (Some cache) told new = (life : ℕ) × LivesFor cache.max_ttl cache.skips bytes view life × IsLeft new told (kept_for lacking ups moment bytes cache key life)

-- what becomes of a reply whose query asked this of a cache, or nothing of any
abbrev pub Keeps : Bool → Upstreams → ℕ → List ℕ → ReplyView → Option (CacheId × Key) → Kept → List KeptReply → Type 0
Keeps lacking ups moment bytes view None told new = IsLeft new told (ups.kept, kept.No)
Keeps lacking ups moment bytes view (Some ask) told new = KeepsAt lacking ups moment bytes view ask.1 (cache_with ask.0 ups.caches) told new

-- a reply to a query that no longer waits: it may be kept in the cache that the query asked, and the
-- query's client gets it
abbrev pub KeepsAndDelivers : Upstreams → ℕ → List ℕ → ReplyView → Entry → Answer → Upstreams → Type 0
KeepsAndDelivers old moment bytes view entry answer new =
    (told : Kept) × (list : List KeptReply) × Keeps (marked answer) old moment bytes view entry.cache told list
    × (new ≡ record old { kept = list }) × (answer ≡ Deliver entry.origin (delivered_octets view entry bytes) told)

-- a reply that belongs to a query: the query goes, and the reply goes to its client, and may be kept
abbrev pub Delivers : Bool → Upstreams → Place → ℕ → List ℕ → ReplyView → Entry → Answer → Upstreams → Type 0
Delivers lacking ups place moment bytes view entry answer new =
    (told : Kept) × (list : List KeptReply) × Keeps lacking (without place ups) moment bytes view entry.cache told list
    × Leaves new answer (record (without place ups) { kept = list }, Deliver entry.origin (delivered_octets view entry bytes) told)

-- a reply held against the question of a query: it belongs to it, or not
abbrev pub BelongsOrNot : Bool → Bool → Upstreams → Place → ℕ → List ℕ → ReplyView → Entry → Answer → Upstreams → Type 0
BelongsOrNot true lacking ups place moment bytes view entry answer new = Delivers lacking ups place moment bytes view entry answer new
BelongsOrNot false lacking ups place moment bytes view entry answer new = Leaves new answer (ups, Ignored ignores.Mismatch)

-- a reply held against the query that waits at its place
abbrev pub HeldAgainst : Bool → Upstreams → Place → ℕ → List ℕ → ReplyView → Option Entry → Answer → Upstreams → Type 0
HeldAgainst lacking ups place moment bytes view None answer new = Leaves new answer (ups, Ignored ignores.Unknown)
HeldAgainst lacking ups place moment bytes view (Some entry) answer new =
    BelongsOrNot (belongs view entry.name entry.qtype entry.qclass) lacking ups place moment bytes view entry answer new

-- a reply from a server by a lane, whose bytes read so; memory may be lacking to keep it
abbrev pub ReplySteps : Bool → Upstreams → ServerId → Lane → ℕ → List ℕ → Result ReplyView ReplyFault → Answer → Upstreams → Type 0
ReplySteps lacking ups server lane moment bytes (Err reply_faults.Short) answer new = Leaves new answer (ups, Ignored ignores.Short)
ReplySteps lacking ups server lane moment bytes (Err reply_faults.NotReply) answer new = Leaves new answer (ups, Ignored ignores.NotReply)
ReplySteps lacking ups server lane moment bytes (Ok view) answer new =
    HeldAgainst lacking ups (at_place server lane view.id) moment bytes view (entry_at ups.outstanding (at_place server lane view.id)) answer new

-- a reply at which memory may be lacking: it belongs to a query that waits, and would be kept
pub record MayKeep (ups : Upstreams) (server : ServerId) (lane : Lane) (moment : ℕ) (bytes : List ℕ) : Type 0 where
  pub view : ReplyView
  pub reads : ReadsReply bytes (Ok view)
  pub entry : Entry
  pub waits : entry_at ups.outstanding (at_place server lane view.id) ≡ Some entry
  pub fits : belongs view entry.name entry.qtype entry.qclass ≡ true
  pub list : List KeptReply
  pub keeps : Keeps false (without (at_place server lane view.id) ups) moment bytes view entry.cache kept.Yes list

-- Forwarding: a server is picked for a query, and the query is sent to it under an ID that is free there.
use Rattle.std.specs.Prelude.{ℕ, Bool, true, false, List, ◌++◌, drop, Option, None, Some}
use Rattle.lb_wire.specs.BigEndian.{two_octets}
use Rattle.lb_wire.specs.Answer.{refusal_of}
use Rattle.lb_wire.specs.Numbers.{rcode_number}
use Rattle.lb_wire.specs.Query.{without_recursion}
use Rattle.lb_wire.specs.declared.ids.CacheId.{CacheId}
use Rattle.lb_wire.specs.declared.ids.ServerId.{ServerId}
use Rattle.lb_wire.specs.declared.key.Key.{Key}
use Rattle.lb_wire.specs.declared.rcode.Rcode.TheVariants as rcodes
use Rattle.lb_wire.specs.declared.transport.Lane.{Lane}
use Rattle.lb_wire.specs.declared.query.QueryView.{QueryView}
use Rattle.lb_table.specs.declared.entry.Entry.{Entry}
use Rattle.lb_table.specs.Place.{at_place}
use Rattle.lb_step.specs.declared.asked.Asked.{Asked}
use Rattle.lb_step.specs.declared.asked.Routed.{Routed}
use Rattle.lb_step.specs.declared.answer.Answer.{Answer}
use Rattle.lb_step.specs.Answer.{Leaves}
use Rattle.lb_step.specs.declared.answer.Answer.TheVariants.{Forward, Local}
use Rattle.lb_step.specs.declared.answer.LocalReason.TheVariants as locals
use Rattle.lb_step.specs.Upstream.{FirstPlace, Upstreams, picked_of, with_entry, with_turn}

-- the refusal of a query with ServFail
abbrev pub failure_of : QueryView → List ℕ
failure_of view = refusal_of view (rcode_number rcodes.ServFail)

-- the message to be sent, still with the query's own ID: RD is 0 where a rule says so
abbrev pub sent_of : Bool → List ℕ → List ℕ
sent_of true bytes = without_recursion bytes
sent_of false bytes = bytes

-- a message with another ID
abbrev pub with_id : ℕ → List ℕ → List ℕ
with_id id bytes = two_octets id ++ drop 2 bytes

-- what is kept of a query until its reply: the octets as they came in, its question, and what it asked of a cache
abbrev pub entry_of : Upstreams → Asked → List ℕ → QueryView → Option (CacheId × Key) → Entry
entry_of ups asked bytes view ask = record {
  origin = asked.origin;
  asked = bytes;
  name = view.name;
  qtype = view.qtype;
  qclass = view.qclass;
  began = asked.moment;
  timeout = ups.timeout;
  cache = ask;
}

-- a query sent to a server by the lane and under the ID that are free, or refused if none are
abbrev pub sent : Upstreams → Asked → List ℕ → QueryView → Routed → Option (CacheId × Key) → ServerId → Option (Lane × ℕ) → Upstreams × Answer
sent ups asked bytes view routed ask server None = (ups, Local (failure_of view) locals.LaneFull)
sent ups asked bytes view routed ask server (Some (lane, id)) = (
  with_entry (at_place server lane id) (entry_of ups asked bytes view ask) ups,
  Forward server lane id (with_id id (sent_of routed.no_recurse bytes)),
)

-- a query for which a pool picked this server, or none: the pool's turn is counted whether an ID is free or not
abbrev pub PickForwards : Upstreams → Asked → List ℕ → QueryView → Routed → Option (CacheId × Key) → Option ServerId → Answer → Upstreams → Type 0
PickForwards ups asked bytes view routed ask None answer new = Leaves new answer (ups, Local (failure_of view) locals.NoServer)
PickForwards ups asked bytes view routed ask (Some server) answer new =
    (by : Option (Lane × ℕ)) × FirstPlace ups server asked.kind asked.word by
    × (Leaves new answer (sent (with_turn routed.pool ups) asked bytes view routed ask server by))

-- a query that a server of a pool is to answer; it asked this of a cache
abbrev pub Forwards : Upstreams → Asked → List ℕ → QueryView → Routed → Option (CacheId × Key) → Answer → Upstreams → Type 0
Forwards ups asked bytes view routed ask answer new = PickForwards ups asked bytes view routed ask (picked_of ups routed.pool) answer new

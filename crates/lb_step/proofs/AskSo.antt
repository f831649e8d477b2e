-- What a query asks of its pool's cache, where it may use one, and the answer that follows.
use Rattle.std.proofs.Common.{◌≡◌, ℕ, Bool, true, false, List, Option, None, Some, Result, Ok, Err, refl, sym, ◌∙◌, ap, subst}
use Rattle.std.specs.Prelude.{IfOk, if◌then◌else◌, option_map}
use Rattle.lb_wire.specs.Key.{key_octets, key_of_message}
use Rattle.lb_wire.specs.Message.{Message, Lays}
use Rattle.lb_wire.specs.Query.{view_of}
use Rattle.lb_wire.specs.declared.ids.CacheId.{CacheId}
use Rattle.lb_wire.specs.declared.key.Key.{Key}
use Rattle.lb_wire.specs.declared.query.QueryView.{QueryView}
use Rattle.lb_servers.specs.Pool.{cache_at}
use Rattle.lb_cache.specs.Caches.{looked_in, skips_of}
use Rattle.lb_step.specs.declared.answer.Answer.{Answer}
use Rattle.lb_step.specs.declared.asked.Asked.{Asked}
use Rattle.lb_step.specs.declared.asked.Routed.{Routed}
use Rattle.lb_step.specs.Forward.{Forwards}
use Rattle.lb_step.specs.Look.{AskAnswers, FoundAnswers, PoolAnswers, ask_of, may_use, parts_sent}
use Rattle.lb_step.specs.Noted.{cache_asked}
use Rattle.lb_step.specs.Upstream.{Upstreams}

-- the key of a cache that is asked
abbrev asks : Upstreams → Asked → Routed → Message → CacheId → CacheId × Key
asks ups asked routed m id = (id, key_of_message (skips_of id ups.caches) asked.kind (parts_sent routed.no_recurse m))

-- a query asks the cache that it may use and that its pool has
asks_by : (may : Bool) (at : Option CacheId) (asks : CacheId → CacheId × Key) → (if may then option_map asks at else None) ≡ option_map asks (if may then at else None)
asks_by true at asks = refl
asks_by false at asks = refl

asks_so : (ups : Upstreams) (asked : Asked) (view : QueryView) (routed : Routed) (m : Message) (cache : Option CacheId) → view ≡ view_of m → cache_asked ups view routed ≡ cache →
    ask_of ups.caches (cache_at ups.pools routed.pool.0) asked.kind m routed ≡ option_map (asks ups asked routed m) cache
asks_so ups asked view routed m cache is asked_is =
    asks_by (may_use (view_of m) routed) (cache_at ups.pools routed.pool.0) (asks ups asked routed m)
    ∙ ap (λ (o : Option CacheId). option_map (asks ups asked routed m) o) (ap (λ (v : QueryView). cache_asked ups v routed) (sym is) ∙ asked_is)

-- a query that asks no cache is sent to a server
pub pool_none : (ups new : Upstreams) (asked : Asked) (bytes : List ℕ) (view : QueryView) (routed : Routed) (m : Message) (answer : Answer) → Lays bytes m → view ≡ view_of m → cache_asked ups view routed ≡ None →
    Forwards ups asked bytes view routed None answer new → PoolAnswers ups asked bytes view routed answer new
pool_none ups new asked bytes view routed m answer lays is none forwards = (
  m,
  lays,
  is,
  subst (λ (ask : Option (CacheId × Key)). AskAnswers ups asked bytes view routed ask answer new) (sym (asks_so ups asked view routed m None is none)) forwards,
)

-- a query that asks this of a cache is answered by its pool as what is found there says
pub pool_so : (ups new : Upstreams) (asked : Asked) (bytes : List ℕ) (view : QueryView) (routed : Routed) (m : Message) (cache : CacheId) (octets : List ℕ) (found : Option (List ℕ × ℕ)) (answer : Answer) → Lays bytes m → view ≡ view_of m →
    cache_asked ups view routed ≡ Some cache → octets ≡ key_octets (skips_of cache ups.caches) (parts_sent routed.no_recurse m) → found ≡ looked_in ups.kept cache (record { kind = asked.kind; octets = octets }) asked.moment →
    FoundAnswers ups asked bytes view routed (cache, record { kind = asked.kind; octets = octets }) found answer new → PoolAnswers ups asked bytes view routed answer new
pool_so ups new asked bytes view routed m cache octets found answer lays is asked_is octets_is found_is answers = (
  m,
  lays,
  is,
  subst (λ (ask : Option (CacheId × Key)). AskAnswers ups asked bytes view routed ask answer new)
      (ap (λ (o : List ℕ). Some (cache, record { kind = asked.kind; octets = o })) octets_is ∙ sym (asks_so ups asked view routed m (Some cache) is asked_is))
      (subst (λ (o : Option (List ℕ × ℕ)). FoundAnswers ups asked bytes view routed (cache, record { kind = asked.kind; octets = octets }) o answer new) found_is answers),
)

-- what is told of an answer that is there
pub each_answer : {E : Type 0} (P Q : Answer → Type 0) (result : Result Answer E) → IfOk result P → ((answer : Answer) → P answer → Q answer) → IfOk result Q
each_answer P Q (Ok answer) is gives = gives answer is
each_answer P Q (Err error) is gives = tt

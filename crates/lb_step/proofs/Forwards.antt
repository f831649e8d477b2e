-- A query that was sent is forwarded as the definition says, and shows no lack of memory.
use Rattle.std.proofs.Common.{◌≡◌, ℕ, false, List, Option, Some, None, Err, Ok, refl, sym, ◌∙◌, ap, subst}
use Rattle.std.specs.Prelude.{IfSome}
use Rattle.lb_name.specs.Name.{lower_name}
use Rattle.lb_wire.specs.Query.{Reads}
use Rattle.lb_wire.specs.declared.ids.CacheId.{CacheId}
use Rattle.lb_wire.specs.declared.key.Key.{Key}
use Rattle.lb_wire.specs.declared.ids.RuleId.{RuleId}
use Rattle.lb_wire.specs.declared.ids.ServerId.{ServerId}
use Rattle.lb_wire.specs.declared.transport.Lane.{Lane}
use Rattle.lb_wire.specs.declared.query.QueryView.{QueryView}
use Rattle.lb_chain.specs.declared.walked.Verdict.{Verdict}
use Rattle.lb_chain.specs.declared.walked.Verdict.TheVariants as verdicts
use Rattle.lb_chain.specs.declared.walked.Walked.{Walked}
use Rattle.lb_table.specs.declared.entry.Entry.{Entry}
use Rattle.lb_table.specs.Place.{at_place}
use Rattle.lb_table.specs.declared.fault.EnterFault.TheVariants.{LaneFull}
use Rattle.lb_servers.specs.Pool.{cache_at}
use Rattle.lb_cache.specs.Caches.{looked_in, name_of_key}
use Rattle.lb_step.specs.declared.asked.Asked.{Asked}
use Rattle.lb_step.specs.declared.asked.Routed.{Routed}
use Rattle.lb_health.specs.declared.health.Changed.TheVariants as changes
use Rattle.lb_step.specs.declared.answer.Answer.{Answer}
use Rattle.lb_step.specs.declared.answer.Answer.TheVariants.{Forward, Local}
use Rattle.lb_step.specs.declared.answer.LocalReason.TheVariants as locals
use Rattle.lb_step.specs.Answer.{change_told, is_refused, marked}
use Rattle.lb_step.specs.Upstream.{Upstreams, IsAsked, SendsBy, picked_of, with_entry, with_turn}
use Rattle.lb_step.specs.Forward.{Forwards, PickForwards, entry_of, failure_of, sent, sent_of, with_id}
use Rattle.lb_step.specs.Look.{AskAnswers, FoundAnswers, PoolAnswers, ask_of}
use Rattle.lb_step.specs.Query.{EndDecides, RuleDecides, default_pool, to_pool}

-- a query that was sent
pub sent_on : (ups new : Upstreams) (asked : Asked) (bytes : List ℕ) (view : QueryView) (routed : Routed) (ask : Option (CacheId × Key)) (server : ServerId) (lane : Lane) (id : ℕ) (entry : Entry) (octets : List ℕ) →
    Some server ≡ picked_of ups routed.pool → entry ≡ entry_of ups asked bytes view ask → octets ≡ with_id id (sent_of routed.no_recurse bytes) →
    SendsBy ups routed.pool server asked.kind asked.word entry (Ok (lane, id)) new → Forwards ups asked bytes view routed ask (Forward server lane id octets) new
sent_on ups new asked bytes view routed ask server lane id entry octets picked is_entry is_octets sends =
    let pool = routed.pool in
    let place = at_place server lane id in
    let left : new ≡ with_entry place (entry_of ups asked bytes view ask) (with_turn pool ups) = sends.1 ∙ ap (λ (e : Entry). with_entry place e (with_turn pool ups)) is_entry in
    let told : Forward server lane id octets ≡ Forward server lane id (with_id id (sent_of routed.no_recurse bytes)) =
    ap (λ (o : List ℕ). Forward server lane id o) is_octets in
    let done : (new, Forward server lane id octets) ≡ sent (with_turn pool ups) asked bytes view routed ask server (Some (lane, id)) =
    ap (λ (u : Upstreams). (u, Forward server lane id octets)) left ∙ ap (λ (a : Answer). (with_entry place (entry_of ups asked bytes view ask) (with_turn pool ups), a)) told in
    subst (λ (p : Option ServerId). PickForwards ups asked bytes view routed ask p (Forward server lane id octets) new) picked (Some (lane, id), sends.0, done)

-- a query for which each lane is full
pub full_on : (ups new : Upstreams) (asked : Asked) (bytes : List ℕ) (view : QueryView) (routed : Routed) (ask : Option (CacheId × Key)) (server : ServerId) (entry : Entry) (answer : Answer) →
    Some server ≡ picked_of ups routed.pool → answer ≡ Local (failure_of view) locals.LaneFull → SendsBy ups routed.pool server asked.kind asked.word entry (Err LaneFull) new → Forwards ups asked bytes view routed ask answer new
full_on ups new asked bytes view routed ask server entry answer picked is sends =
    let done : (new, answer) ≡ sent (with_turn routed.pool ups) asked bytes view routed ask server None = ap (λ (u : Upstreams). (u, answer)) sends.1 ∙ ap (λ (a : Answer). (with_turn routed.pool ups, a)) is in
    subst (λ (p : Option ServerId). PickForwards ups asked bytes view routed ask p answer new) picked (None, sends.0, done)

-- what is kept of a query that reads, and whose key is of its question
pub asked_by : (ups : Upstreams) (asked : Asked) (bytes : List ℕ) (view : QueryView) (ask : Option (CacheId × Key)) → Reads bytes (Ok view) →
    IfSome ask (λ ask. name_of_key ask.1 ≡ lower_name view.name) → IsAsked (entry_of ups asked bytes view ask)
asked_by ups asked bytes view None reads key = record { view = view; reads = reads; key = tt }
asked_by ups asked bytes view (Some ask) reads key = record { view = view; reads = reads; key = key }

-- an answer that is told with a state
told_by : (new : Upstreams) (answer : Answer) (done : Upstreams × Answer) → (new, answer) ≡ done → answer ≡ done.1
told_by new answer done is = ap (λ (d : Upstreams × Answer). d.1) is

-- neither a mark nor a refusal, nor the change of a server
abbrev IsPlain : Answer → Type 0
IsPlain answer = (marked answer ≡ false) × (is_refused answer ≡ false) × ((server : ServerId) → change_told server answer ≡ changes.No)

sent_plain : (ups : Upstreams) (asked : Asked) (bytes : List ℕ) (view : QueryView) (routed : Routed) (ask : Option (CacheId × Key)) (server : ServerId) (by : Option (Lane × ℕ)) → IsPlain (sent ups asked bytes view routed ask server by).1
sent_plain ups asked bytes view routed ask server None = (refl, refl, λ s. refl)
sent_plain ups asked bytes view routed ask server (Some (lane, id)) = (refl, refl, λ s. refl)

picked_plain : (ups new : Upstreams) (asked : Asked) (bytes : List ℕ) (view : QueryView) (routed : Routed) (ask : Option (CacheId × Key)) (server : Option ServerId) (answer : Answer) →
    PickForwards ups asked bytes view routed ask server answer new → IsPlain answer
picked_plain ups new asked bytes view routed ask None answer is = subst IsPlain (sym (told_by new answer _ is)) (refl, refl, λ s. refl)
picked_plain ups new asked bytes view routed ask (Some server) answer is =
    subst IsPlain (sym (told_by new answer (sent (with_turn routed.pool ups) asked bytes view routed ask server is.0) is.2)) (sent_plain (with_turn routed.pool ups) asked bytes view routed ask server is.0)

found_plain : (ups new : Upstreams) (asked : Asked) (bytes : List ℕ) (view : QueryView) (routed : Routed) (ask : CacheId × Key) (hit : Option (List ℕ × ℕ)) (answer : Answer) →
    FoundAnswers ups asked bytes view routed ask hit answer new → IsPlain answer
found_plain ups new asked bytes view routed ask None answer is = picked_plain ups new asked bytes view routed (Some ask) (picked_of ups routed.pool) answer is
found_plain ups new asked bytes view routed ask (Some hit) answer is = subst IsPlain (sym (told_by new answer _ is.2)) (refl, refl, λ s. refl)

asked_plain : (ups new : Upstreams) (asked : Asked) (bytes : List ℕ) (view : QueryView) (routed : Routed) (ask : Option (CacheId × Key)) (answer : Answer) →
    AskAnswers ups asked bytes view routed ask answer new → IsPlain answer
asked_plain ups new asked bytes view routed None answer is = picked_plain ups new asked bytes view routed None (picked_of ups routed.pool) answer is
asked_plain ups new asked bytes view routed (Some ask) answer is = found_plain ups new asked bytes view routed ask (looked_in ups.kept ask.0 ask.1 asked.moment) answer is

pool_plain : (ups new : Upstreams) (asked : Asked) (bytes : List ℕ) (view : QueryView) (routed : Routed) (answer : Answer) → PoolAnswers ups asked bytes view routed answer new → IsPlain answer
pool_plain ups new asked bytes view routed answer is = asked_plain ups new asked bytes view routed (ask_of ups.caches (cache_at ups.pools routed.pool.0) asked.kind is.0 routed) answer is.3

ruled_plain : (ups new : Upstreams) (asked : Asked) (bytes : List ℕ) (view : QueryView) (walked : Walked) (rule : RuleId) (verdict : Verdict) (answer : Answer) →
    RuleDecides ups asked bytes view walked rule verdict answer new → IsPlain answer
ruled_plain ups new asked bytes view walked rule verdicts.Allow answer is = pool_plain ups new asked bytes view (to_pool walked default_pool) answer is
ruled_plain ups new asked bytes view walked rule (verdicts.Pool pool) answer is = pool_plain ups new asked bytes view (to_pool walked pool) answer is
ruled_plain ups new asked bytes view walked rule verdicts.Drop answer is = subst IsPlain (sym (told_by new answer _ is)) (refl, refl, λ s. refl)
ruled_plain ups new asked bytes view walked rule (verdicts.Rcode rcode) answer is = subst IsPlain (sym (told_by new answer _ is)) (refl, refl, λ s. refl)
ruled_plain ups new asked bytes view walked rule verdicts.Tc answer is = subst IsPlain (sym (told_by new answer _ is)) (refl, refl, λ s. refl)
ruled_plain ups new asked bytes view walked rule (verdicts.Spoof addrs) answer is = subst IsPlain (sym (told_by new answer _ is)) (refl, refl, λ s. refl)

pub ended_plain : (ups new : Upstreams) (asked : Asked) (bytes : List ℕ) (view : QueryView) (walked : Walked) (rule : Option RuleId) (answer : Answer) →
    EndDecides ups asked bytes view walked rule answer new → (marked answer ≡ false) × (is_refused answer ≡ false) × ((server : ServerId) → change_told server answer ≡ changes.No)
ended_plain ups new asked bytes view walked None answer is = pool_plain ups new asked bytes view (to_pool walked default_pool) answer is
ended_plain ups new asked bytes view walked (Some rule) answer is = ruled_plain ups new asked bytes view walked rule walked.verdict answer is

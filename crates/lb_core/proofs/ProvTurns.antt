-- What a step does to the outstanding queries and the kept replies, whichever server is picked, whichever query is due and
-- wherever a list is grown.
use Rattle.std.specs.Prelude.{◌≡◌, ℕ, max, true, false, List, ◌⊎◌, Option, None, Some, option_and_then}
use Rattle.std.specs.List.{All, Contains}
use Rattle.lb_wire.specs.BigEndian.{number_at}
use Rattle.lb_wire.specs.declared.ids.CacheId.{CacheId}
use Rattle.lb_wire.specs.declared.kept.Kept.{Kept}
use Rattle.lb_wire.specs.declared.kept.Kept.TheVariants as kept
use Rattle.lb_wire.specs.declared.key.Key.{Key}
use Rattle.lb_table.specs.declared.entry.Waiting.{Waiting}
use Rattle.lb_table.specs.declared.place.Place.{Place}
use Rattle.lb_table.specs.Place.{at_place}
use Rattle.lb_table.specs.Table.{is_at}
use Rattle.lb_cache.specs.Caches.{looked_in}
use Rattle.lb_cache.specs.Reply.{lives}
use Rattle.lb_cache.specs.declared.cached.KeptReply.{KeptReply}
use Rattle.lb_step.specs.declared.event.Event.{Event}
use Rattle.lb_step.specs.declared.event.Event.TheVariants.{Reply, Edit}
use Rattle.lb_step.specs.declared.answer.Answer.{Answer}
use Rattle.lb_step.specs.declared.answer.Answer.TheVariants.{Deliver, Edited, Forward, Local}
use Rattle.lb_step.specs.declared.answer.LocalReason.TheVariants as locals
use Rattle.lb_step.specs.Answer.{marked}
use Rattle.lb_step.specs.Plain.{Plain}
use Rattle.lb_step.specs.Reading.{Reading, moment_of}
use Rattle.lb_step.specs.Routes.{routes_of}
use Rattle.lb_core.specs.Provenance.{Told, HitsFor, LivesIn, asks, ended_by, is_hit, octets_of}
use Rattle.lb_core.proofs.ProvAsks.{ask_for, same_ask}
use Rattle.lb_core.proofs.ProvLists.{Puts, Sifts}
use Rattle.lb_core.proofs.ProvStanding.{Stood, stood_by}

-- a reply as it stands in the list
abbrev pub held : CacheId × Key → Stood → ℕ → KeptReply
held ask stood life = record { cache = ask.0; reply = record { key = ask.1; bytes = octets_of stood.event; moment = stood.moment; life = life } }

-- how long it lives
abbrev pub LivesSo : Stood → ℕ → Type 0
LivesSo stood life = LivesIn stood.cache stood.event stood.reading life

-- what the caches give a query that asks this, or nothing
abbrev pub looked : List KeptReply → ℕ → Option (CacheId × Key) → Option (List ℕ × ℕ)
looked kept now asked = option_and_then (λ ask. looked_in kept ask.0 ask.1 now) asked

-- an event is answered by what the caches give, or not by them
abbrev pub AnsweredFrom : Option (List ℕ × ℕ) → Reading → Answer → Type 0
AnsweredFrom None reading answer = is_hit answer ≡ false
AnsweredFrom (Some hit) reading answer = (octets : List ℕ) × (answer ≡ Local octets locals.Hit) × HitsFor reading hit.0 hit.1 octets

-- a reply is kept: in place of the one for its cache and key, and perhaps of dead ones
pub record KeepsOne (now : ℕ) (k : KeptReply) (old new : List KeptReply) : Type 0 where
  pub each : All (λ o. (o ≡ k) ⊎ (Contains old o × (same_ask (ask_for o) (ask_for k) ≡ false))) new
  pub here : Contains new k
  pub rest : (o : KeptReply) → Contains old o → same_ask (ask_for o) (ask_for k) ≡ false → lives now o.reply ≡ true → Contains new o

-- a query is sent to a place that is free; it asked this
pub record SendsOne (asked : Option (CacheId × Key)) (place : Place) (old new : List Waiting) : Type 0 where
  pub sent : Waiting
  pub puts : Puts sent old new
  pub place_is : sent.place ≡ place
  pub asked_is : sent.entry.cache ≡ asked
  pub free : All (λ w. is_at place w ≡ false) old

-- the outstanding queries after an answer
abbrev pub OutstandingAfter : Option (CacheId × Key) → Answer → List Waiting → List Waiting → Type 0
OutstandingAfter asked (Forward server lane id bytes) old new = SendsOne asked (at_place server lane id) old new
OutstandingAfter asked _ old new = All (Contains old) new

-- the outstanding query that a reply answers asked this
pub record AnswersOne (outstanding : List Waiting) (place : Place) (ask : CacheId × Key) : Type 0 where
  pub waiting : Waiting
  pub there : Contains outstanding waiting
  pub place_is : waiting.place ≡ place
  pub asked_is : waiting.entry.cache ≡ Some ask

-- a reply that is kept
pub record KeepsReply (old : Plain) (event : Event) (reading : Reading) (place : Place) (new : List KeptReply) : Type 0 where
  pub ask : CacheId × Key
  pub life : ℕ
  pub answers : AnswersOne old.outstanding place ask
  pub lives_so : LivesSo (stood_by (routes_of old) event reading ask) life
  pub keeps : KeepsOne (max old.moment (moment_of event)) (held ask (stood_by (routes_of old) event reading ask) life) old.kept new

-- what becomes of the kept replies where this is told of a reply
abbrev pub KeptTold : Plain → Event → Reading → Place → Kept → List KeptReply → Type 0
KeptTold old event reading place kept.Yes new = KeepsReply old event reading place new
KeptTold old event reading place _ new = new ≡ old.kept

-- the kept replies after an event
abbrev pub KeptAfter : Plain → Event → Reading → Answer → List KeptReply → Type 0
KeptAfter old (Reply now server lane bytes) reading (Deliver origin sent told) new = KeptTold old (Reply now server lane bytes) reading (at_place server lane (number_at bytes 0)) told new
KeptAfter old (Edit now command) reading (Edited note) new = Sifts (λ k. ended_by (routes_of old) command (ask_for k)) old.kept new
KeptAfter old _ _ _ new = new ≡ old.kept

-- what each step does, besides to the routes
pub record Turns (old : Plain) (t : Told) (new : Plain) : Type 0 where
  pub answered : marked t.answer ≡ false → AnsweredFrom (looked old.kept (max old.moment (moment_of t.event)) (asks (routes_of old) t)) t.reading t.answer
  pub outstanding : OutstandingAfter (asks (routes_of old) t) t.answer old.outstanding new.outstanding
  pub kept : KeptAfter old t.event t.reading t.answer new.kept

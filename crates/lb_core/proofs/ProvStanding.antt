-- The reply that stands for a cache and key: by recursion on a history, what its relations say.
use Rattle.std.proofs.Common.{◌≡◌, ℕ, Bool, true, false, List, [], ◌∷◌, ◌++◌, max, cond, Option, None, Some, inl, inr, refl, sym, ◌∙◌, ap, subst}
use Rattle.std.specs.Prelude.{if◌then◌else◌}
use Rattle.std.specs.List.{AllByRecursion}
use Rattle.std.proofs.lemmas.Bool.{cases_Bool, both_ways, cond-true, cond-false, false_from_ne_true}
use Rattle.std.proofs.lemmas.Option.{same_Some, none-some}
use Rattle.lb_wire.specs.BigEndian.{number_at}
use Rattle.lb_wire.specs.declared.ids.CacheId.{CacheId}
use Rattle.lb_wire.specs.declared.kept.Kept.TheVariants as kept
use Rattle.lb_wire.specs.declared.key.Key.{Key}
use Rattle.lb_table.specs.declared.place.Place.{Place}
use Rattle.lb_table.specs.Place.{at_place}
use Rattle.lb_cache.specs.Caches.{cache_with}
use Rattle.lb_cache.specs.declared.cached.AttachedCache.{AttachedCache}
use Rattle.lb_step.specs.declared.event.Event.{Event}
use Rattle.lb_step.specs.declared.event.Event.TheVariants.{Reply}
use Rattle.lb_step.specs.declared.answer.Answer.{Answer}
use Rattle.lb_step.specs.declared.answer.Answer.TheVariants.{Deliver}
use Rattle.lb_step.specs.Reading.{Reading, moment_of}
use Rattle.lb_step.specs.Routes.{Routes}
use Rattle.lb_core.specs.Provenance.{Told, KeptFor, IsKeptFor, LastSent, Untouched, asks, ends, is_sent, routes_in}
use Rattle.lb_core.proofs.ProvAsks.{ask_itself, same_ask, same_asks}

-- what the query asked that was last sent to a place
abbrev pub asked_under : Routes → List Told → Place → Option (CacheId × Key)
asked_under opening [] place = None
asked_under opening (t ∷ before) place = if is_sent place t.answer then asks (routes_in opening before) t else asked_under opening before place

-- what an event with its answer is a kept reply for
abbrev pub kept_by : Routes → List Told → Event → Answer → Option (CacheId × Key)
kept_by opening before (Reply now server lane bytes) (Deliver origin sent kept.Yes) = asked_under opening before (at_place server lane (number_at bytes 0))
kept_by opening before _ _ = None

abbrev pub is_for : CacheId × Key → Option (CacheId × Key) → Bool
is_for ask None = false
is_for ask (Some other) = same_ask ask other

-- a reply that is kept: the cache that it is for, its event with what that reads as, and the moment
pub record Stood : Type 0 where
  pub cache : Option AttachedCache
  pub event : Event
  pub reading : Reading
  pub moment : ℕ

abbrev pub stood_by : Routes → Event → Reading → CacheId × Key → Stood
stood_by routes event reading ask = record { cache = cache_with ask.0 routes.caches; event = event; reading = reading; moment = max routes.moment (moment_of event) }

abbrev pub stood_of : Routes → Told → CacheId × Key → Stood
stood_of routes t ask = stood_by routes t.event t.reading ask

-- the latest reply kept for a cache and key that nothing has ended since
abbrev pub standing : Routes → List Told → CacheId × Key → Option Stood
standing opening [] ask = None
standing opening (t ∷ before) ask =
    if is_for ask (kept_by opening before t.event t.answer) then Some (stood_of (routes_in opening before) t ask)
    else (if ends (routes_in opening before) t.event t.answer ask then None
    else standing opening before ask)

-- the last query that was sent to a place
to_sent : (opening : Routes) (before : List Told) (place : Place) (ask : CacheId × Key) → asked_under opening before place ≡ Some ask → LastSent opening before place ask
to_sent opening [] place ask is = absurd (none-some ask is)
to_sent opening (t ∷ before) place ask is = elim (cases_Bool (is_sent place t.answer)) [
  | inl sent ↦ record {
    since = [];
    query = t;
    earlier = before;
    parts = refl;
    sent = sent;
    last = tt;
    asked = sym (cond-true (is_sent place t.answer) (asks (routes_in opening before) t) (asked_under opening before place) sent) ∙ is;
  }
  | inr other ↦
      let rest = to_sent opening before place ask (sym (cond-false (is_sent place t.answer) (asks (routes_in opening before) t) (asked_under opening before place) other) ∙ is) in
      record {
        since = t ∷ rest.since;
        query = rest.query;
        earlier = rest.earlier;
        parts = ap (λ (ts : List Told). t ∷ ts) rest.parts;
        sent = rest.sent;
        last = (other, rest.last);
        asked = rest.asked;
      }
]

sent_at : (opening : Routes) (since : List Told) (query : Told) (earlier : List Told) (place : Place) → is_sent place query.answer ≡ true → AllByRecursion (λ t. is_sent place t.answer ≡ false) since →
    asked_under opening (since ++ query ∷ earlier) place ≡ asks (routes_in opening earlier) query
sent_at opening [] query earlier place sent last = cond-true (is_sent place query.answer) (asks (routes_in opening earlier) query) (asked_under opening earlier place) sent
sent_at opening (t ∷ since) query earlier place sent last =
    cond-false (is_sent place t.answer) (asks (routes_in opening (since ++ query ∷ earlier)) t) (asked_under opening (since ++ query ∷ earlier) place) last.0
    ∙ sent_at opening since query earlier place sent last.1

from_sent : (opening : Routes) (before : List Told) (place : Place) (ask : CacheId × Key) → LastSent opening before place ask → asked_under opening before place ≡ Some ask
from_sent opening before place ask s = ap (λ (ts : List Told). asked_under opening ts place) s.parts ∙ sent_at opening s.since s.query s.earlier place s.sent s.last ∙ s.asked

-- what a reply is kept for
for_some : (ask : CacheId × Key) (o : Option (CacheId × Key)) → is_for ask o ≡ true → o ≡ Some ask
for_some ask None is = absurd (both_ways false refl is)
for_some ask (Some other) is = ap (λ (a : CacheId × Key). Some a) (sym (same_asks ask other is))

to_kept : (opening : Routes) (before : List Told) (ask : CacheId × Key) (event : Event) (answer : Answer) → kept_by opening before event answer ≡ Some ask → IsKeptFor opening before ask event answer
to_kept opening before ask (Reply now server lane bytes) (Deliver origin sent kept.Yes) is = to_sent opening before (at_place server lane (number_at bytes 0)) ask is
to_kept opening before ask _ _ is = none-some ask is

from_kept : (opening : Routes) (before : List Told) (ask : CacheId × Key) (event : Event) (answer : Answer) → IsKeptFor opening before ask event answer → kept_by opening before event answer ≡ Some ask
from_kept opening before ask (Reply now server lane bytes) (Deliver origin sent kept.Yes) is = from_sent opening before (at_place server lane (number_at bytes 0)) ask is
from_kept opening before ask _ _ is = absurd is

-- a reply stands since the one that was kept
pub record Since (opening : Routes) (before : List Told) (ask : CacheId × Key) (stood : Stood) : Type 0 where
  pub since : List Told
  pub reply : Told
  pub earlier : List Told
  pub parts : before ≡ since ++ reply ∷ earlier
  pub kept : KeptFor opening earlier reply ask
  pub untouched : Untouched opening since (reply ∷ earlier) ask
  pub is : stood_of (routes_in opening earlier) reply ask ≡ stood

pub to_since : (opening : Routes) (before : List Told) (ask : CacheId × Key) (stood : Stood) → standing opening before ask ≡ Some stood → Since opening before ask stood
to_since opening [] ask stood is = absurd (none-some stood is)
to_since opening (t ∷ before) ask stood is =
    let for : Bool = is_for ask (kept_by opening before t.event t.answer) in
    let ended : Bool = ends (routes_in opening before) t.event t.answer ask in
    let here : Stood = stood_of (routes_in opening before) t ask in
    elim (cases_Bool for) [
      | inl this ↦ record {
        since = [];
        reply = t;
        earlier = before;
        parts = refl;
        kept = to_kept opening before ask t.event t.answer (for_some ask (kept_by opening before t.event t.answer) this);
        untouched = tt;
        is = same_Some here stood (sym (cond-true for (Some here) (cond ended None (standing opening before ask)) this) ∙ is);
      }
      | inr other ↦
          let next : cond ended None (standing opening before ask) ≡ Some stood = sym (cond-false for (Some here) (cond ended None (standing opening before ask)) other) ∙ is in
          elim (cases_Bool ended) [
            | inl was_ended ↦ absurd (none-some stood (sym (cond-true ended None (standing opening before ask) was_ended) ∙ next))
            | inr not_ended ↦
                let rest = to_since opening before ask stood (sym (cond-false ended None (standing opening before ask) not_ended) ∙ next) in
                let none : KeptFor opening before t ask → ⊥ = λ k. both_ways for other (ap (is_for ask) (from_kept opening before ask t.event t.answer k) ∙ ask_itself ask) in
                record {
                  since = t ∷ rest.since;
                  reply = rest.reply;
                  earlier = rest.earlier;
                  parts = ap (λ (ts : List Told). t ∷ ts) rest.parts;
                  kept = rest.kept;
                  untouched = (
                    subst (λ (ts : List Told). KeptFor opening ts t ask → ⊥) rest.parts none,
                    subst (λ (ts : List Told). ends (routes_in opening ts) t.event t.answer ask ≡ false) rest.parts not_ended,
                    rest.untouched,
                  );
                  is = rest.is;
                }
          ]
    ]

-- where a reply was kept and nothing touched it since, it stands
pub stands_at : (opening : Routes) (since : List Told) (reply : Told) (earlier : List Told) (ask : CacheId × Key) → KeptFor opening earlier reply ask → Untouched opening since (reply ∷ earlier) ask →
    standing opening (since ++ reply ∷ earlier) ask ≡ Some (stood_of (routes_in opening earlier) reply ask)
stands_at opening [] reply earlier ask is untouched =
    cond-true (is_for ask (kept_by opening earlier reply.event reply.answer)) (Some (stood_of (routes_in opening earlier) reply ask)) (cond (ends (routes_in opening earlier) reply.event reply.answer ask) None (standing opening earlier ask))
    (ap (is_for ask) (from_kept opening earlier ask reply.event reply.answer is) ∙ ask_itself ask)
stands_at opening (t ∷ since) reply earlier ask is untouched =
    let before : List Told = since ++ reply ∷ earlier in
    let for : Bool = is_for ask (kept_by opening before t.event t.answer) in
    let other : for ≡ false = false_from_ne_true for (λ this. untouched.0 (to_kept opening before ask t.event t.answer (for_some ask (kept_by opening before t.event t.answer) this))) in
    cond-false for (Some (stood_of (routes_in opening before) t ask)) (cond (ends (routes_in opening before) t.event t.answer ask) None (standing opening before ask)) other
    ∙ cond-false (ends (routes_in opening before) t.event t.answer ask) None (standing opening before ask) untouched.1
    ∙ stands_at opening since reply earlier ask is untouched.2

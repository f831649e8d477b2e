-- What the step of a reply does to the outstanding queries and the kept replies.
use Rattle.std.proofs.Common.{◌≡◌, ℕ, Bool, true, false, not, ◌&&◌, List, max, Option, None, Some, Result, Ok, Err, ◌⊎◌, inl, inr, refl, sym, ◌∙◌, ap, subst, nat_lt}
use Rattle.std.specs.Prelude.{option_map}
use Rattle.std.specs.List.{All, Contains, count_by, filter, list_any}
use Rattle.std.proofs.lemmas.Bool.{and_right, cond_both, eqb-true}
use Rattle.std.proofs.lemmas.Option.{none-some, same_Some}
use Rattle.std.proofs.lemmas.List.Elements.{All-contains, All-contains_itself, All-weaker}
use Rattle.lb_wire.specs.Belongs.{belongs}
use Rattle.lb_wire.specs.BigEndian.{number_at}
use Rattle.lb_wire.specs.Reply.{ReadsReply}
use Rattle.lb_wire.specs.declared.ids.CacheId.{CacheId}
use Rattle.lb_wire.specs.declared.ids.ServerId.{ServerId}
use Rattle.lb_wire.specs.declared.kept.Kept.{Kept}
use Rattle.lb_wire.specs.declared.kept.Kept.TheVariants as kept
use Rattle.lb_wire.specs.declared.key.Key.{Key}
use Rattle.lb_wire.specs.declared.reply.ReplyFault.{ReplyFault}
use Rattle.lb_wire.specs.declared.reply.ReplyFault.TheVariants as reply_faults
use Rattle.lb_wire.specs.declared.reply.ReplyView.{ReplyView}
use Rattle.lb_wire.specs.declared.transport.Lane.{Lane}
use Rattle.lb_table.specs.Place.{at_place}
use Rattle.lb_table.specs.Table.{entry_at, is_at, taken_at, waits_at}
use Rattle.lb_table.specs.declared.entry.Waiting.{Waiting}
use Rattle.lb_table.specs.declared.place.Place.{Place}
use Rattle.lb_cache.specs.Caches.{cache_with, goes_before, has_id, is_dead_in, is_of, is_under, kept_in, put_in_order, put_unless}
use Rattle.lb_cache.specs.Reply.{lives}
use Rattle.lb_cache.specs.declared.cached.AttachedCache.{AttachedCache}
use Rattle.lb_cache.specs.declared.cached.KeptReply.{KeptReply}
use Rattle.lb_step.specs.declared.answer.Answer.{Answer}
use Rattle.lb_step.specs.declared.answer.Answer.TheVariants.{Ignored}
use Rattle.lb_step.specs.declared.answer.IgnoreReason.{IgnoreReason}
use Rattle.lb_step.specs.declared.answer.IgnoreReason.TheVariants as ignores
use Rattle.lb_step.specs.declared.event.Event.{Event}
use Rattle.lb_step.specs.declared.event.Event.TheVariants.{Reply}
use Rattle.lb_step.specs.Plain.{Plain, at_plain, upstreams_of, with_upstreams}
use Rattle.lb_step.specs.Reading.{OfReply}
use Rattle.lb_step.specs.Reply.{BelongsOrNot, HeldAgainst, IsLeft, Keeps, KeepsAt, ReplySteps, kept_for}
use Rattle.lb_step.specs.Routes.{routes_of}
use Rattle.lb_step.specs.Upstream.{Upstreams}
use Rattle.lb_core.specs.Provenance.{LivesIn}
use Rattle.lb_core.proofs.ProvAsks.{ask_for, same_ask, same_places}
use Rattle.lb_core.proofs.ProvLists.{Puts, Sifts, all_removed, find_cases, none_pass, puts_between, sifts_filter, sifts_none}
use Rattle.lb_core.proofs.ProvStanding.{stood_by}
use Rattle.lb_core.proofs.ProvTurns.{AnswersOne, KeepsOne, KeptTold, LivesSo, Turns, held}

-- what is left where one is taken out
pub taken_stays : (waiting : List Waiting) (at : Option ℕ) → All (Contains waiting) (taken_at waiting at)
taken_stays waiting None = All-contains_itself waiting
taken_stays waiting (Some at) = all_removed waiting at

abbrev the_id : ℕ → CacheId
the_id n = record { 0 = n }

-- a reply put among the others that stay
module _ (now : ℕ) (k : KeptReply) (old others : List KeptReply) (fails : KeptReply → Bool) (sifts : Sifts fails old others) where
  abbrev is_same : KeptReply → Bool
  is_same o = same_ask (ask_for o) (ask_for k)

  keeps_one : ((o : KeptReply) → Contains old o → fails o ≡ false → is_same o ≡ false) → ((o : KeptReply) → is_same o ≡ false → lives now o.reply ≡ true → fails o ≡ false) →
      KeepsOne now k old (put_in_order k others)
  keeps_one goes stays =
      let puts : Puts k others (put_in_order k others) = puts_between (goes_before k) k others in
      record {
        each = All-weaker (λ o. (o ≡ k) ⊎ Contains others o) (λ o. (o ≡ k) ⊎ (Contains old o × (is_same o ≡ false))) (λ o from. elim from [
          | inl is ↦ inl is
          | inr among ↦
              let was = All-contains (λ (o : KeptReply). Contains old o × (fails o ≡ false)) others o sifts.each among in
              inr (was.0, goes o was.0 was.1)
        ]) (put_in_order k others) puts.each;
        here = puts.here;
        rest = λ o there other alive. puts.rest o (sifts.rest o there (stays o other alive));
      }

module _ (old : Plain) (now : ℕ) (server : ServerId) (lane : Lane) (bytes : List ℕ) (view : ReplyView) where
  abbrev plain : Plain
  plain = at_plain now old

  abbrev event : Event
  event = Reply now server lane bytes

  abbrev place : Place
  place = at_place server lane (number_at bytes 0)

  abbrev ToldSo : Kept → List KeptReply → Type 0
  ToldSo told new = KeptTold old event (OfReply (Ok view)) place told new

  abbrev BothSo : List KeptReply × Kept → Type 0
  BothSo done = ToldSo done.1 done.0

  -- a reply that is kept, as its query asked
  module _ (ask : CacheId × Key) (life : ℕ) (answers : AnswersOne old.outstanding place ask) (lives_so : LivesSo (stood_by (routes_of old) event (OfReply (Ok view)) ask) life) where
    abbrev reply : KeptReply
    reply = held ask (stood_by (routes_of old) event (OfReply (Ok view)) ask) life

    put_told : (lacking : Bool) (others : List KeptReply) → KeepsOne plain.moment reply old.kept (put_in_order reply others) → BothSo (put_unless lacking old.kept reply others)
    put_told true others keeps = refl
    put_told false others keeps = record { ask = ask; life = life; answers = answers; lives_so = lives_so; keeps = keeps }

    kept_in_told : (lacking : Bool) (most : ℕ) → BothSo (kept_in lacking most old.kept reply plain.moment)
    kept_in_told lacking most =
        let m : ℕ = plain.moment in
        let same : KeptReply → Bool = is_under ask.0 ask.1 in
        let dead : KeptReply → Bool = is_dead_in ask.0 m in
        let new_one : list_any same old.kept ≡ false → (o : KeptReply) → Contains old.kept o → same o ≡ false =
        λ none o there. All-contains (λ (o : KeptReply). same o ≡ false) old.kept o (none_pass same old.kept none) there in
        let alive : (o : KeptReply) → lives m o.reply ≡ true → dead o ≡ false = λ o living. ap (λ (b : Bool). is_of ask.0 o && not b) living ∙ and_right (is_of ask.0 o) false refl in
        cond_both (list_any same old.kept) _ _ BothSo
        (λ _. put_told lacking (filter (λ o. not (same o)) old.kept) (keeps_one m reply old.kept _ same (sifts_filter same old.kept) (λ o there other. other) (λ o other living. other)))
        (λ none. cond_both (nat_lt (count_by (is_of ask.0) old.kept) most) _ _ BothSo
        (λ _. put_told lacking old.kept (keeps_one m reply old.kept old.kept (λ o. false) (sifts_none (λ o. false) old.kept (λ o. refl)) (λ o there other. new_one none o there) (λ o other living. refl)))
        (λ _. cond_both (list_any dead old.kept) _ _ BothSo
        (λ _. put_told lacking (filter (λ o. not (dead o)) old.kept) (keeps_one m reply old.kept _ dead (sifts_filter dead old.kept) (λ o there other. new_one none o there) (λ o other living. alive o living)))
        (λ _. refl)))

    kept_for_told : (lacking : Bool) (ups : Upstreams) (cache : AttachedCache) → ups.kept ≡ old.kept → cache.id ≡ ask.0 → BothSo (kept_for lacking ups plain.moment bytes cache ask.1 life)
    kept_for_told lacking ups cache is id =
        rw (is, id) (cond_both (nat_lt 0 life) (kept_in lacking cache.max old.kept reply plain.moment) (old.kept, kept.No) BothSo (λ _. kept_in_told lacking cache.max) (λ _. refl))

  left_told : (told : Kept) (list : List KeptReply) (done : List KeptReply × Kept) → IsLeft list told done → BothSo done → ToldSo told list
  left_told told list done left is = subst BothSo (sym left) is

  -- a cache that was found has the number that was searched
  found_id : (id : CacheId) (caches : List AttachedCache) (cache : AttachedCache) → cache_with id caches ≡ Some cache → cache.id ≡ id
  found_id id caches cache is = elim (find_cases (has_id id) caches) [
    | inl some ↦
        let same : some.0 ≡ cache = same_Some some.0 cache (sym some.1.is ∙ is) in
        ap (λ (c : AttachedCache). c.id) (sym same) ∙ ap the_id (eqb-true some.0.id.0 id.0 some.1.passes)
    | inr none ↦ absurd (none-some cache (sym none.0 ∙ is))
  ]

  keeps_at_told : (lacking : Bool) (ups : Upstreams) (ask : CacheId × Key) (cache : Option AttachedCache) (told : Kept) (list : List KeptReply) → ups.kept ≡ old.kept → cache_with ask.0 old.caches ≡ cache →
      AnswersOne old.outstanding place ask → KeepsAt lacking ups plain.moment bytes view ask.1 cache told list → ToldSo told list
  keeps_at_told lacking ups ask None told list is at answers left = left_told told list (ups.kept, kept.No) left is
  keeps_at_told lacking ups ask (Some cache) told list is at answers (life, lasting, left) =
      let lives_so : LivesSo (stood_by (routes_of old) event (OfReply (Ok view)) ask) life = subst (λ (c : Option AttachedCache). LivesIn c event (OfReply (Ok view)) life) (sym at) lasting in
      left_told told list (kept_for lacking ups plain.moment bytes cache ask.1 life) left (kept_for_told ask life answers lives_so lacking ups cache is (found_id ask.0 old.caches cache at))

  keeps_told : (lacking : Bool) (ups : Upstreams) (w : Waiting) (asked : Option (CacheId × Key)) (told : Kept) (list : List KeptReply) → ups.kept ≡ old.kept → ups.caches ≡ old.caches → Contains old.outstanding w → w.place ≡ place → w.entry.cache ≡ asked →
      Keeps lacking ups plain.moment bytes view asked told list → ToldSo told list
  keeps_told lacking ups w None told list is caches there at asks left = left_told told list (ups.kept, kept.No) left is
  keeps_told lacking ups w (Some ask) told list is caches there at asks keeps =
      keeps_at_told lacking ups ask (cache_with ask.0 ups.caches) told list is (ap (cache_with ask.0) (sym caches)) (record { waiting = w; there = there; place_is = at; asked_is = asks }) keeps

  abbrev TurnOf : Upstreams × Answer → Type 0
  TurnOf done = Turns old (record { event = event; reading = OfReply (Ok view); answer = done.1 }) (with_upstreams done.0 plain)

  ignored : (why : IgnoreReason) → TurnOf (upstreams_of plain, Ignored why)
  ignored why = record { answered = λ un. refl; outstanding = All-contains_itself old.outstanding; kept = refl }

  belongs_turn : (fits lacking : Bool) (w : Waiting) (answer : Answer) (new : Upstreams) → Contains old.outstanding w → w.place ≡ place →
      BelongsOrNot fits lacking (upstreams_of plain) place plain.moment bytes view w.entry answer new → TurnOf (new, answer)
  belongs_turn true lacking w answer new there at (told, list, keeps, leaves) =
      subst TurnOf (sym leaves) (record {
        answered = λ un. refl;
        outstanding = taken_stays old.outstanding (waits_at place old.outstanding);
        kept = keeps_told lacking (upstreams_of plain) w w.entry.cache told list refl refl there at refl keeps;
      })
  belongs_turn false lacking w answer new there at leaves = subst TurnOf (sym leaves) (ignored ignores.Mismatch)

  held_turn : (lacking : Bool) (answer : Answer) (new : Upstreams) → HeldAgainst lacking (upstreams_of plain) place plain.moment bytes view (entry_at old.outstanding place) answer new → TurnOf (new, answer)
  held_turn lacking answer new steps = elim (find_cases (is_at place) old.outstanding) [
    | inl some ↦
        let w : Waiting = some.0 in
        belongs_turn (belongs view w.entry.name w.entry.qtype w.entry.qclass) lacking w answer new some.1.there (same_places w.place place some.1.passes)
        (subst (λ (o : Option Waiting). HeldAgainst lacking (upstreams_of plain) place plain.moment bytes view (option_map (λ w. w.entry) o) answer new) some.1.is steps)
    | inr none ↦ subst TurnOf
        (sym (subst (λ (o : Option Waiting). HeldAgainst lacking (upstreams_of plain) place plain.moment bytes view (option_map (λ w. w.entry) o) answer new) none.0 steps)) (ignored ignores.Unknown)
  ]

-- the step of a reply
pub reply_turn : (old : Plain) (now : ℕ) (server : ServerId) (lane : Lane) (bytes : List ℕ) (reading : Result ReplyView ReplyFault) (lacking : Bool) (answer : Answer) (new : Upstreams) → ReadsReply bytes reading →
    ReplySteps lacking (upstreams_of (at_plain now old)) server lane (max old.moment now) bytes reading answer new →
    Turns old (record { event = Reply now server lane bytes; reading = OfReply reading; answer = answer }) (with_upstreams new (at_plain now old))
reply_turn old now server lane bytes (Err reply_faults.Short) lacking answer new reads leaves =
    subst (λ (done : Upstreams × Answer). Turns old (record { event = Reply now server lane bytes; reading = OfReply (Err reply_faults.Short); answer = done.1 }) (with_upstreams done.0 (at_plain now old))) (sym leaves)
    (record { answered = λ un. refl; outstanding = All-contains_itself old.outstanding; kept = refl })
reply_turn old now server lane bytes (Err reply_faults.NotReply) lacking answer new reads leaves =
    subst (λ (done : Upstreams × Answer). Turns old (record { event = Reply now server lane bytes; reading = OfReply (Err reply_faults.NotReply); answer = done.1 }) (with_upstreams done.0 (at_plain now old))) (sym leaves)
    (record { answered = λ un. refl; outstanding = All-contains_itself old.outstanding; kept = refl })
reply_turn old now server lane bytes (Ok view) lacking answer new reads steps =
    held_turn old now server lane bytes view lacking answer new
    (subst (λ (id : ℕ). HeldAgainst lacking (upstreams_of (at_plain now old)) (at_place server lane id) (max old.moment now) bytes view (entry_at old.outstanding (at_place server lane id)) answer new) reads.id steps)

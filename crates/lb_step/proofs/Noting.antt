-- What a step leaves beside the plain state.
use Rattle.std.proofs.Common.{◌≡◌, ℕ, Bool, List, Option, None, Some, option_map, Result, max, sym, ◌∙◌, ap, subst}
use Rattle.lb_wire.specs.Query.{Reads}
use Rattle.lb_wire.specs.Reply.{ReadsReply}
use Rattle.lb_wire.specs.declared.addr.Origin.{Origin}
use Rattle.lb_wire.specs.declared.ids.CacheId.{CacheId}
use Rattle.lb_wire.specs.declared.ids.ServerId.{ServerId}
use Rattle.lb_wire.specs.declared.transport.Kind.{Kind}
use Rattle.lb_wire.specs.declared.transport.Lane.{Lane}
use Rattle.lb_wire.specs.declared.query.QueryView.{QueryView}
use Rattle.lb_wire.specs.declared.query.QueryFault.{QueryFault}
use Rattle.lb_wire.specs.declared.reply.ReplyView.{ReplyView}
use Rattle.lb_wire.specs.declared.reply.ReplyFault.{ReplyFault}
use Rattle.lb_chain.specs.declared.walked.Walked.{Walked}
use Rattle.lb_chain.specs.Edits.{Rules}
use Rattle.lb_chain.specs.Seen.{SeenTwice}
use Rattle.lb_step.specs.declared.asked.Asked.{Asked}
use Rattle.lb_step.specs.declared.answer.Answer.{Answer}
use Rattle.lb_step.specs.declared.answer.Answer.TheVariants.{Deliver}
use Rattle.lb_wire.specs.declared.kept.Kept.{Kept}
use Rattle.lb_table.specs.declared.entry.Entry.{Entry}
use Rattle.lb_step.specs.declared.event.Event.TheVariants.{Query, Reply}
use Rattle.lb_step.specs.declared.noted.Noted.{Noted}
use Rattle.lb_step.specs.declared.noted.Served.{Served}
use Rattle.lb_step.specs.Answer.{marked}
use Rattle.lb_step.specs.Noted.{IsNoted, asked_by, note, pool_asked, query_noted, reply_served, served_by, served_if, walk_noted}
use Rattle.lb_step.specs.Plain.{Plain, at_plain, plain_of}
use Rattle.lb_step.specs.Query.{Decides}
use Rattle.lb_step.specs.Reading.{OfQuery, OfReply, viewed}
use Rattle.lb_step.specs.Step.{asked_at}
use Rattle.lb_step.specs.Upstream.{Upstreams}
use Rattle.lb_step.proofs.Forwards.{ended_plain}
use Rattle.lb_step.proofs.Steps.{later, parts_of}

-- a query that was walked and decided
pub decided_noted : (ups after : Upstreams) (asked : Asked) (bytes : List ℕ) (view : QueryView) (walked own : Walked) (answer : Answer) (looked : Option CacheId) →
    Decides ups asked bytes view own answer after → own ≡ walked → looked ≡ asked_by ups view own (pool_asked own.rule own.verdict) →
    note own.rule looked None ≡ walk_noted (marked answer) ups view walked
decided_noted ups after asked bytes view walked own answer looked decides is looks =
    ap (λ (c : Option CacheId). note own.rule c None) looks
    ∙ subst (λ (b : Bool). note own.rule (asked_by ups view own (pool_asked own.rule own.verdict)) None ≡ walk_noted b ups view walked) (sym (ended_plain ups after asked bytes view own own.rule answer decides).0)
    (ap (λ (w : Walked). note w.rule (asked_by ups view w (pool_asked w.rule w.verdict)) None) is)

-- an event of a query
pub query_leaves : SeenTwice → (m now t : ℕ) (chain : Rules) (ups : Upstreams) (origin : Origin) (kind : Kind) (word : ℕ) (bytes : List ℕ) (answer : Answer) (noted : Noted) →
    t ≡ max m now →
    ((reading : Result QueryView QueryFault) × Reads bytes reading × (noted ≡ query_noted (marked answer) (plain_of t chain ups) (asked_at t origin kind word) reading)) →
    IsNoted (plain_of m chain ups) (Query now origin kind word bytes) answer noted
query_leaves twice m now t chain ups origin kind word bytes answer noted is step =
    let then_old : plain_of t chain ups ≡ at_plain now (plain_of m chain ups) = sym (later twice m now t chain ups is) in
    let parts = parts_of bytes step.0 step.1 in (
      OfQuery parts.0,
      parts.1,
      step.2
          ∙ ap (query_noted (marked answer) (plain_of t chain ups) (asked_at t origin kind word)) parts.2
          ∙ ap (λ (p : Plain). query_noted (marked answer) p (asked_at p.moment origin kind word) (viewed parts.0)) then_old,
    )

-- an event of a reply
pub reply_leaves : SeenTwice → (m now t : ℕ) (chain : Rules) (ups : Upstreams) (server : ServerId) (lane : Lane) (bytes : List ℕ) (answer : Answer) (noted : Noted) (served : Option Served) →
    t ≡ max m now → noted ≡ note None None served →
    ((reading : Result ReplyView ReplyFault) × ReadsReply bytes reading × (served ≡ reply_served answer ups.outstanding server lane reading)) →
    IsNoted (plain_of m chain ups) (Reply now server lane bytes) answer noted
reply_leaves twice m now t chain ups server lane bytes answer noted served is all step = (OfReply step.0, step.1, all ∙ ap (λ (s : Option Served). note None None s) step.2)

-- a reply that was delivered
pub delivered_served : (server : ServerId) (entry : Entry) (waits : Option Entry) (answer : Answer) (origin : Origin) (bytes : List ℕ) (told : Kept) →
    Some entry ≡ waits → answer ≡ Deliver origin bytes told → Some (served_by server entry) ≡ served_if answer server waits
delivered_served server entry waits answer origin bytes told is tells =
    ap (option_map (served_by server)) is ∙ ap (λ (a : Answer). served_if a server waits) (sym tells)

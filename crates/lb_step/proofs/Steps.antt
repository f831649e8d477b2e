-- Steps of the balancer over its plain state.
use Rattle.std.proofs.Common.{◌≡◌, ℕ, Bool, false, IsTrue, List, Result, Ok, Err, max, refl, sym, ◌∙◌, ap, subst, arith}
use Rattle.lb_wire.specs.Message.{Message}
use Rattle.lb_wire.specs.Query.{Reads}
use Rattle.lb_wire.specs.Reply.{ReadsReply}
use Rattle.lb_wire.specs.declared.addr.Origin.{Origin}
use Rattle.lb_wire.specs.declared.ids.ServerId.{ServerId}
use Rattle.lb_wire.specs.declared.transport.Kind.{Kind}
use Rattle.lb_wire.specs.declared.transport.Lane.{Lane}
use Rattle.lb_wire.specs.declared.query.QueryView.{QueryView}
use Rattle.lb_wire.specs.declared.query.QueryFault.{QueryFault}
use Rattle.lb_wire.specs.declared.reply.ReplyView.{ReplyView}
use Rattle.lb_wire.specs.declared.reply.ReplyFault.{ReplyFault}
use Rattle.lb_chain.specs.declared.numbered.Numbered.{Numbered}
use Rattle.lb_chain.specs.declared.walked.Walked.{Walked}
use Rattle.lb_chain.specs.Edits.{Rules}
use Rattle.lb_chain.specs.Counting.{counted}
use Rattle.lb_chain.specs.Seen.{seen_rules, SeenTwice}
use Rattle.lb_step.specs.declared.asked.Asked.{Asked}
use Rattle.lb_step.specs.declared.answer.Answer.{Answer}
use Rattle.lb_step.specs.declared.command.Command.{Command}
use Rattle.lb_step.specs.declared.event.Event.TheVariants.{Query, Reply, Edit}
use Rattle.lb_step.specs.Answer.{marked}
use Rattle.lb_step.specs.Edit.{edit_of, MayLackAt}
use Rattle.lb_step.specs.Plain.{Plain, at_plain, plain_of, with_upstreams}
use Rattle.lb_step.specs.Reading.{OfNone, OfQuery, OfReply, ReadsQuery, viewed}
use Rattle.lb_step.specs.Reply.{MayKeep, ReplySteps}
use Rattle.lb_step.specs.Step.{Answers, MayMarkAt, StepsAt, asked_at}
use Rattle.lb_step.specs.Upstream.{Upstreams}
use Rattle.lb_step.specs.Query.{Decides, MayLack, QuerySteps, WalkedSteps, with_passes}
use Rattle.lb_step.proofs.Forwards.{ended_plain}

-- the state of a chain and of what stands upstream, seen later
pub later : SeenTwice → (m now t : ℕ) (chain : Rules) (ups : Upstreams) → t ≡ max m now → at_plain now (plain_of m chain ups) ≡ plain_of t chain ups
later twice m now t chain ups is =
    ap (λ (rules : List Numbered). record (plain_of (max m now) chain ups) { rules = rules }) (twice m (max m now) chain.rules (omega arith))
    ∙ ap (λ (t : ℕ). plain_of t chain ups) (sym is)

-- a query whose passes were counted
pub counted_step : (old new : Rules) (ups after : Upstreams) (asked : Asked) (bytes : List ℕ) (view : QueryView) (walked own : Walked) (answer : Answer) →
    Decides ups asked bytes view own answer after → own ≡ walked → new.next ≡ old.next →
    seen_rules asked.moment new.rules ≡ counted own.passes asked.origin.source asked.moment (seen_rules asked.moment old.rules) →
    WalkedSteps (marked answer) (plain_of asked.moment old ups) asked bytes view walked answer (plain_of asked.moment new after)
counted_step old new ups after asked bytes view walked own answer decides is next rules =
    let m = asked.moment in
    let unmarked : marked answer ≡ false = (ended_plain ups after asked bytes view own own.rule answer decides).0 in
    let state : plain_of m new after ≡ with_upstreams after (with_passes asked own (plain_of m old ups)) =
    ap (λ (n : ℕ). record (plain_of m new after) { next_rule = n }) next
    ∙ ap (λ (rs : List Numbered). record (plain_of m old after) { rules = rs }) rules in
    subst (λ (b : Bool). WalkedSteps b (plain_of m old ups) asked bytes view walked answer (plain_of m new after)) (sym unmarked)
    (subst (λ (w : Walked). WalkedSteps false (plain_of m old ups) asked bytes view w answer (plain_of m new after)) is (after, decides, state))

-- what octets read as by their parts, whose view it is
pub parts_of : (bytes : List ℕ) (reading : Result QueryView QueryFault) → Reads bytes reading → (parts : Result Message QueryFault) × ReadsQuery bytes parts × (reading ≡ viewed parts)
parts_of bytes (Ok view) reads = (Ok reads.0, (reads.1, reads.2), ap (λ (v : QueryView). Ok v) reads.3)
parts_of bytes (Err fault) reads = (Err fault, reads, refl)

-- an event of a query
pub query_answers : SeenTwice → (m now t : ℕ) (old new : Rules) (ups after : Upstreams) (origin : Origin) (kind : Kind) (word : ℕ) (bytes : List ℕ) (answer : Answer) →
    t ≡ max m now →
    ((reading : Result QueryView QueryFault) × Reads bytes reading × QuerySteps (marked answer) (plain_of t old ups) (asked_at t origin kind word) bytes reading answer (plain_of t new after)) →
    (IsTrue (marked answer) → (view : QueryView) × MayLack (plain_of t old ups) (asked_at t origin kind word) bytes view) →
    Answers (plain_of m old ups) (Query now origin kind word bytes) answer (plain_of t new after)
query_answers twice m now t old new ups after origin kind word bytes answer is step mark =
    let then_old : plain_of t old ups ≡ at_plain now (plain_of m old ups) = sym (later twice m now t old ups is) in
    let parts = parts_of bytes step.0 step.1 in
    let steps = subst (λ (r : Result QueryView QueryFault). QuerySteps (marked answer) (plain_of t old ups) (asked_at t origin kind word) bytes r answer (plain_of t new after)) parts.2 step.2 in
    record {
      reading = OfQuery parts.0;
      reads = parts.1;
      step = subst (λ (p : Plain). StepsAt p (Query now origin kind word bytes) (OfQuery parts.0) answer (plain_of t new after)) then_old steps;
      mark = λ marks. subst (λ (p : Plain). MayMarkAt p (Query now origin kind word bytes)) then_old (mark marks);
    }

-- an event of a reply
pub reply_answers : SeenTwice → (m now t : ℕ) (chain : Rules) (ups after : Upstreams) (server : ServerId) (lane : Lane) (bytes : List ℕ) (answer : Answer) →
    t ≡ max m now →
    ((reading : Result ReplyView ReplyFault) × ReadsReply bytes reading × ReplySteps (marked answer) ups server lane t bytes reading answer after) →
    (IsTrue (marked answer) → MayKeep ups server lane t bytes) →
    Answers (plain_of m chain ups) (Reply now server lane bytes) answer (plain_of t chain after)
reply_answers twice m now t chain ups after server lane bytes answer is step mark =
    let then_old : plain_of t chain ups ≡ at_plain now (plain_of m chain ups) = sym (later twice m now t chain ups is) in
    record {
      reading = OfReply step.0;
      reads = step.1;
      step = subst (λ (p : Plain). StepsAt p (Reply now server lane bytes) (OfReply step.0) answer (plain_of t chain after)) then_old (after, step.2, refl);
      mark = λ marks. subst (λ (p : Plain). MayMarkAt p (Reply now server lane bytes)) then_old (mark marks);
    }

-- an event of a command
pub edit_answers : SeenTwice → (m now t : ℕ) (old new : Rules) (ups after : Upstreams) (command : Command) (answer : Answer) →
    t ≡ max m now →
    (plain_of t new after, answer) ≡ edit_of (marked answer) (plain_of t old ups) command →
    (IsTrue (marked answer) → MayLackAt (plain_of t old ups) command) →
    Answers (plain_of m old ups) (Edit now command) answer (plain_of t new after)
edit_answers twice m now t old new ups after command answer is step mark =
    let then_old : plain_of t old ups ≡ at_plain now (plain_of m old ups) = sym (later twice m now t old ups is) in
    record {
      reading = OfNone;
      reads = tt;
      step = subst (λ (p : Plain). StepsAt p (Edit now command) OfNone answer (plain_of t new after)) then_old step;
      mark = λ marks. subst (λ (p : Plain). MayMarkAt p (Edit now command)) then_old (mark marks);
    }

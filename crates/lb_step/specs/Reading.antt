-- What the octets of an event read as.
use Rattle.std.specs.Prelude.{◌≡◌, ℕ, List, Result, Ok, Err}
use Rattle.lb_wire.specs.Message.{Message, Lays}
use Rattle.lb_wire.specs.Query.{IsQuery, Reads, view_of}
use Rattle.lb_wire.specs.Reply.{ReadsReply}
use Rattle.lb_wire.specs.declared.query.QueryView.{QueryView}
use Rattle.lb_wire.specs.declared.query.QueryFault.{QueryFault}
use Rattle.lb_wire.specs.declared.reply.ReplyView.{ReplyView}
use Rattle.lb_wire.specs.declared.reply.ReplyFault.{ReplyFault}
use Rattle.lb_step.specs.declared.event.Event.{Event}
use Rattle.lb_step.specs.declared.event.Event.TheVariants.{Query, Reply, Tick, HealthResult, Edit}

-- what the octets of an event read as; a tick, a health result and an edit have none
pub data Reading : Type 0 where
  OfQuery : Result Message QueryFault → Reading
  OfReply : Result ReplyView ReplyFault → Reading
  OfNone : Reading

-- what the octets of a query read as: its parts, or why they are no query
abbrev pub ReadsQuery : List ℕ → Result Message QueryFault → Type 0
ReadsQuery bytes (Ok m) = Lays bytes m × IsQuery m
ReadsQuery bytes (Err fault) = Reads bytes (Err fault)

-- the parts of it that decide about a query
abbrev pub viewed : Result Message QueryFault → Result QueryView QueryFault
viewed (Ok m) = Ok (view_of m)
viewed (Err fault) = Err fault

abbrev pub ReadsEvent : Event → Reading → Type 0
ReadsEvent (Query now origin kind word bytes) (OfQuery reading) = ReadsQuery bytes reading
ReadsEvent (Reply now server lane bytes) (OfReply reading) = ReadsReply bytes reading
ReadsEvent (Tick now) OfNone = Unit {0}
ReadsEvent (HealthResult now server ok) OfNone = Unit {0}
ReadsEvent (Edit now command) OfNone = Unit {0}
ReadsEvent _ _ = ⊥

-- events read in exactly one way at most
abbrev pub OneEventReading : Type 0
OneEventReading = (event : Event) (a b : Reading) → ReadsEvent event a → ReadsEvent event b → a ≡ b

-- the moment that an event tells
abbrev pub moment_of : Event → ℕ
moment_of (Query now origin kind word bytes) = now
moment_of (Reply now server lane bytes) = now
moment_of (Tick now) = now
moment_of (HealthResult now server ok) = now
moment_of (Edit now command) = now

-- The step: what one event does to the plain state, and its answer.
use Rattle.std.specs.Prelude.{◌≡◌, ℕ, true, IsTrue}
use Rattle.lb_wire.specs.declared.query.QueryView.{QueryView}
use Rattle.lb_wire.specs.declared.addr.Origin.{Origin}
use Rattle.lb_wire.specs.declared.transport.Kind.{Kind}
use Rattle.lb_step.specs.declared.asked.Asked.{Asked}
use Rattle.lb_step.specs.declared.event.Event.{Event}
use Rattle.lb_step.specs.declared.event.Event.TheVariants.{Query, Reply, Tick, HealthResult, Edit}
use Rattle.lb_step.specs.declared.answer.Answer.{Answer}
use Rattle.lb_step.specs.Answer.{Leaves, is_refused, marked}
use Rattle.lb_step.specs.Plain.{Plain, at_plain, upstreams_of, with_upstreams}
use Rattle.lb_step.specs.Upstream.{Upstreams}
use Rattle.lb_step.specs.Query.{QuerySteps, MayLack}
use Rattle.lb_step.specs.Reply.{MayKeep, ReplySteps}
use Rattle.lb_step.specs.Expiry.{Expires}
use Rattle.lb_step.specs.Health.{result_step}
use Rattle.lb_step.specs.Edit.{edit_of, upstream_changed, MayLackAt}
use Rattle.lb_step.specs.Reading.{Reading, OfQuery, OfReply, OfNone, ReadsEvent, moment_of, viewed}
use Rattle.lb_step.specs.Routes.{routes_of, routes_after}

-- what was asked by a query, at the moment of the balancer
abbrev pub asked_at : ℕ → Origin → Kind → ℕ → Asked
asked_at moment origin kind word = record { moment = moment; origin = origin; kind = kind; word = word }

-- a step at the moment of its event; the answer shows where memory was lacking
abbrev pub StepsAt : Plain → Event → Reading → Answer → Plain → Type 0
StepsAt plain (Query now origin kind word bytes) (OfQuery reading) answer new = QuerySteps (marked answer) plain (asked_at plain.moment origin kind word) bytes (viewed reading) answer new
StepsAt plain (Reply now server lane bytes) (OfReply reading) answer new =
    (ups : Upstreams) × ReplySteps (marked answer) (upstreams_of plain) server lane plain.moment bytes reading answer ups × (new ≡ with_upstreams ups plain)
StepsAt plain (Tick now) OfNone answer new = (ups : Upstreams) × Expires (upstreams_of plain) plain.moment answer ups × (new ≡ with_upstreams ups plain)
StepsAt plain (HealthResult now server ok) OfNone answer new = Leaves new answer (upstream_changed plain (result_step (upstreams_of plain) server ok))
StepsAt plain (Edit now command) OfNone answer new = Leaves new answer (edit_of (marked answer) plain command)
StepsAt plain _ _ answer new = ⊥

-- from the old state the event, which reads so, is given this answer, and the new state stands after it
abbrev pub Steps : Plain → Event → Reading → Answer → Plain → Type 0
Steps old event reading answer new = StepsAt (at_plain (moment_of event) old) event reading answer new

-- the events at which memory may be lacking
abbrev pub MayMarkAt : Plain → Event → Type 0
MayMarkAt plain (Query now origin kind word bytes) = (view : QueryView) × MayLack plain (asked_at plain.moment origin kind word) bytes view
MayMarkAt plain (Reply now server lane bytes) = MayKeep (upstreams_of plain) server lane plain.moment bytes
MayMarkAt plain (Tick now) = ⊥
MayMarkAt plain (HealthResult now server ok) = ⊥
MayMarkAt plain (Edit now command) = MayLackAt plain command

abbrev pub MayMark : Plain → Event → Type 0
MayMark old event = MayMarkAt (at_plain (moment_of event) old) event

-- the event is given this answer: by what its octets read as, and with lack of memory only where it may be
pub record Answers (old : Plain) (event : Event) (answer : Answer) (new : Plain) : Type 0 where
  pub reading : Reading
  pub reads : ReadsEvent event reading
  pub step : Steps old event reading answer new
  pub mark : IsTrue (marked answer) → MayMark old event

-- an event that is refused, or met lack of memory, changes nothing but the moment
abbrev pub RefusalsChangeNothing : Type 0
RefusalsChangeNothing = (old new : Plain) (event : Event) (reading : Reading) (answer : Answer) →
    Steps old event reading answer new → is_refused answer ≡ true → new ≡ at_plain (moment_of event) old

-- the routes after an event follow from the routes before it, the event, what its octets read as, and its answer: no server
-- and no outstanding query has a part in them
abbrev pub RoutesFollow : Type 0
RoutesFollow = (old new : Plain) (event : Event) (reading : Reading) (answer : Answer) →
    Steps old event reading answer new → routes_of new ≡ routes_after (routes_of old) event reading answer

-- Runs over lists of events.
use Rattle.std.specs.Prelude.{◌≡◌, ℕ, max, not, List, [], ◌∷◌, ◌++◌, length, map, replicate, Ok}
use Rattle.std.specs.List.{AllByRecursion, filter}
use Rattle.lb_wire.specs.Query.{Reads}
use Rattle.lb_wire.specs.declared.query.QueryView.{QueryView}
use Rattle.lb_table.specs.declared.entry.Waiting.{Waiting}
use Rattle.lb_table.specs.Table.{is_due}
use Rattle.lb_step.specs.declared.event.Event.{Event}
use Rattle.lb_step.specs.declared.event.Event.TheVariants.{Tick}
use Rattle.lb_step.specs.declared.answer.Answer.{Answer}
use Rattle.lb_step.specs.declared.answer.Answer.TheVariants.{Expired, Quiet}
use Rattle.lb_step.specs.Plain.{Plain, at_plain}
use Rattle.lb_step.specs.Answer.{marked}
use Rattle.lb_step.specs.Forward.{failure_of}
use Rattle.lb_step.specs.Routes.{routes_of}
use Rattle.lb_step.specs.Step.{Answers}
use Rattle.lb_core.specs.Provenance.{MeetsHits, MeetsProvenance}

-- a run: the events are given these answers, one after the other
abbrev pub IsRun : Plain → List Event → List Answer → Plain → Type 0
IsRun old [] [] new = new ≡ old
IsRun old (event ∷ events) (answer ∷ answers) new = (mid : Plain) × Answers old event answer mid × IsRun mid events answers new
IsRun old [] (answer ∷ answers) new = ⊥
IsRun old (event ∷ events) [] new = ⊥

-- events and marks determine the answers and the end of a run
abbrev pub OneRunPerMarks : Type 0
OneRunPerMarks = (old : Plain) (events : List Event) (a b : List Answer) (m n : Plain) →
    IsRun old events a m → IsRun old events b n → map marked a ≡ map marked b → (a ≡ b) × (m ≡ n)

-- a query that is given up: its client gets ServFail, made from the query as it came in
abbrev pub GivesUp : Waiting → Answer → Type 0
GivesUp w answer = (view : QueryView) × Reads w.entry.asked (Ok view) × (answer ≡ Expired w.entry.origin (failure_of view))

-- these queries are given up by these answers, in order, each once
abbrev pub GiveUp : List Waiting → List Answer → Type 0
GiveUp [] [] = Unit {0}
GiveUp (w ∷ ws) (answer ∷ answers) = GivesUp w answer × GiveUp ws answers
GiveUp [] (answer ∷ answers) = ⊥
GiveUp (w ∷ ws) [] = ⊥

-- ticks at one moment, until there is nothing to tell, end exactly the queries that are given up by then, in order, each
-- once, and change nothing else
abbrev pub TicksEndTheDue : Type 0
TicksEndTheDue = (old new : Plain) (now : ℕ) (answers : List Answer) →
    IsRun old (Tick now ∷ replicate (length answers) (Tick now)) (answers ++ Quiet ∷ []) new → AllByRecursion (λ answer. answer ≡ Quiet → ⊥) answers →
    GiveUp (filter (is_due (max old.moment now)) old.outstanding) answers
    × (new ≡ record (at_plain now old) { outstanding = filter (λ w. not (is_due (max old.moment now) w)) old.outstanding })

-- in every run that begins without outstanding queries and kept replies, the answers from caches come from the replies that
-- were kept
abbrev pub CachedAnswersAreKeptReplies : Type 0
CachedAnswersAreKeptReplies = (old new : Plain) (events : List Event) (answers : List Answer) →
    old.outstanding ≡ [] → old.kept ≡ [] → IsRun old events answers new → MeetsProvenance (routes_of old) events answers

-- in every run, from any state, each hit comes from a reply that was kept when the run began, or that came in it
abbrev pub HitsComeFromReplies : Type 0
HitsComeFromReplies = (old new : Plain) (events : List Event) (answers : List Answer) → IsRun old events answers new → MeetsHits old events answers

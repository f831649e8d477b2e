-- What reports are read for of an event.
use Rattle.std.specs.Prelude.{Bool, List, [], ◌∷◌}
use Rattle.lb_step.specs.declared.event.Event.{Event}
use Rattle.lb_step.specs.declared.event.Event.TheVariants as events
use Rattle.lb_loops_io.specs.declared.head.Head.{Head}
use Rattle.lb_loops_io.specs.declared.head.Head.TheVariants.{Edit, HealthResult, Query, Reply, Tick}

-- what reports are read for: all but the octets
abbrev pub head_of : Event → Head
head_of (events.Query now origin kind word bytes) = Query origin
head_of (events.Reply now server lane bytes) = Reply
head_of (events.Tick now) = Tick now
head_of (events.HealthResult now server ok) = HealthResult now server ok
head_of (events.Edit now command) = Edit

-- the event that is logged
abbrev pub logged : List (Event × Bool) → Event
logged [] = events.Tick 0
logged ((event, _) ∷ _) = event

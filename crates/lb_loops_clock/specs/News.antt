-- What the clock tells the desk.
use Rattle.std.specs.Prelude.{ℕ}
use Rattle.lb_loops_clock.specs.declared.news.News.{News}
use Rattle.lb_loops_clock.specs.declared.news.News.TheVariants as news
use Rattle.lb_step.specs.declared.event.Event.{Event}
use Rattle.lb_step.specs.declared.event.Event.TheVariants.{HealthResult, Tick}
use Rattle.lb_loops_io.specs.declared.report.Source.{Source}
use Rattle.lb_loops_io.specs.declared.report.Source.TheVariants as sources

-- the event that tells it, at a moment
abbrev pub event_told : News → ℕ → Event
event_told news.Tick now = Tick now
event_told (news.Result server word ok) now = HealthResult now server ok

-- where it comes from
abbrev pub source_told : News → Source
source_told news.Tick = sources.Clock
source_told (news.Result server word ok) = sources.Probe server word

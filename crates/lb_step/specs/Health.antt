-- The results of health checks: each is taken in every mode, and a change of the health marks the server.
use Rattle.std.specs.Prelude.{ℕ, Bool, true, false, Option, None, Some, slice_get, slice_set}
use Rattle.std.specs.List.{position}
use Rattle.lb_wire.specs.declared.ids.ServerId.{ServerId}
use Rattle.lb_health.specs.Health.{result_of}
use Rattle.lb_health.specs.declared.health.Changed.{Changed}
use Rattle.lb_health.specs.declared.health.Changed.TheVariants as changes
use Rattle.lb_step.specs.declared.answer.Answer.{Answer}
use Rattle.lb_step.specs.declared.answer.Answer.TheVariants.{Edited, Ignored, Quiet}
use Rattle.lb_step.specs.declared.answer.IgnoreReason.TheVariants as ignores
use Rattle.lb_step.specs.declared.answer.Note.TheVariants as notes
use Rattle.lb_step.specs.declared.check.Check.{Check}
use Rattle.lb_step.specs.Upstream.{Upstreams, is_check, with_mark}

-- what stands upstream where the health of a server changed so
abbrev pub with_change : ServerId → Changed → Upstreams → Upstreams
with_change server changes.No ups = ups
with_change server changes.Up ups = with_mark true server ups
with_change server changes.Down ups = with_mark false server ups

-- a health check after a result
abbrev pub after_result : Bool → Check → Check
after_result ok check = record check { health = (result_of check.health ok).0 }

-- the health check that stands at a place, another one in its place
abbrev pub with_check_at : ℕ → Check → Upstreams → Upstreams
with_check_at at check ups = record ups { checks = slice_set ups.checks at check }

-- a result taken by the health check at a place, and the change that it makes; without one there the server is not known
abbrev pub result_by : Upstreams → ServerId → Bool → ℕ → Option Check → Upstreams × Option Changed
result_by ups server ok at None = (ups, None)
result_by ups server ok at (Some check) = (
  with_change server (result_of check.health ok).1 (with_check_at at (after_result ok check) ups),
  Some (result_of check.health ok).1,
)

abbrev pub result_at : Upstreams → ServerId → Bool → Option ℕ → Upstreams × Option Changed
result_at ups server ok None = (ups, None)
result_at ups server ok (Some at) = result_by ups server ok at (slice_get ups.checks at)

-- a result taken by the health check of a server
abbrev pub result_taken : Upstreams → ServerId → Bool → Upstreams × Option Changed
result_taken ups server ok = result_at ups server ok (position (is_check server) ups.checks)

-- the answer to a result that made this change, or was of no known server
abbrev pub result_told : ServerId → Option Changed → Answer
result_told server None = Ignored ignores.NoServer
result_told server (Some changes.No) = Quiet
result_told server (Some changes.Up) = Edited (notes.ServerUp server)
result_told server (Some changes.Down) = Edited (notes.ServerDown server)

-- a result of a server
abbrev pub result_step : Upstreams → ServerId → Bool → Upstreams × Answer
result_step ups server ok = let done = result_taken ups server ok in (done.0, result_told server done.1)

-- Runs of balancers with equal snapshots.
use Rattle.std.specs.Prelude.{◌≡◌, List}
use Rattle.lb_step.specs.declared.answer.Answer.{Answer}
use Rattle.lb_step.specs.declared.event.Event.{Event}
use Rattle.lb_step.specs.Plain.{Plain}
use Rattle.lb_step.specs.Snapshot.{snapshot_of, IsShown}
use Rattle.lb_core.specs.Runs.{IsRun}

-- two balancers with equal snapshots have the same runs ever after
abbrev pub EqualSnapshotsEqualRuns : Type 0
EqualSnapshotsEqualRuns = (a b new : Plain) (events : List Event) (answers : List Answer) → IsShown a → IsShown b → snapshot_of a ≡ snapshot_of b → IsRun a events answers new → IsRun b events answers new

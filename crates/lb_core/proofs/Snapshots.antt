-- Two balancers with equal snapshots have equal runs.
use Rattle.std.proofs.Common.{subst}
use Rattle.lb_step.specs.Plain.{Plain}
use Rattle.lb_step.specs.Snapshot.{EqualSnapshotsEqualStates}
use Rattle.lb_core.specs.Runs.{IsRun}
use Rattle.lb_core.specs.Snapshot.{EqualSnapshotsEqualRuns}

pub equal_runs : EqualSnapshotsEqualStates → EqualSnapshotsEqualRuns
equal_runs equal a b new events answers shown_a shown_b same run = subst (λ (p : Plain). IsRun p events answers new) (equal a b shown_a shown_b same) run

use Rattle.lb_core.proofs.Snapshots.{equal_runs}
use Rattle.lb_core.proofs.laws.equal_snapshots_have_equal_runs.Goals as goal

pub returns : goal.returns
returns c = equal_runs c.equal_snapshots_are_of_equal_states.ensures

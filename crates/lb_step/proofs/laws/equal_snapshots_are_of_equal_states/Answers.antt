use Rattle.lb_step.proofs.Snapshots.{equal_states}
use Rattle.lb_step.proofs.laws.equal_snapshots_are_of_equal_states.Goals as goal

pub returns : goal.returns
returns c = equal_states c.listed_alike_seen_alike.ensures

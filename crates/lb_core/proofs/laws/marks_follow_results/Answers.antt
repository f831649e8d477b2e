use Rattle.lb_core.proofs.HealthRuns.{marks_follow}
use Rattle.lb_core.proofs.laws.marks_follow_results.Goals as goal

pub returns : goal.returns
returns c = marks_follow c.health_follows.ensures

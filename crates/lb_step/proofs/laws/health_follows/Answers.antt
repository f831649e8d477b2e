use Rattle.lb_step.proofs.HealthSteps.{health_follows}
use Rattle.lb_step.proofs.laws.health_follows.Goals as goal

pub returns : goal.returns
returns c = health_follows c.last_of_a_row_from.ensures

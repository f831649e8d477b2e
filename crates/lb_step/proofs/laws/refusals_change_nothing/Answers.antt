use Rattle.lb_step.proofs.Refusals.{refusals}
use Rattle.lb_step.proofs.laws.refusals_change_nothing.Goals as goal

pub returns : goal.returns
returns c = refusals c.seen_twice.ensures

use Rattle.lb_core.proofs.TicksEndTheDue.{ticks_end}
use Rattle.lb_core.proofs.laws.ticks_end_the_due.Goals as goal

pub returns : goal.returns
returns c = ticks_end c.seen_twice.ensures

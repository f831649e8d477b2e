use Rattle.lb_cache.proofs.MarkOrder.{mark_le}
use Rattle.lb_cache.proofs.ends.Ends.least.Goals as goal

pub returns-in-Some-clause-least : goal.returns-in-Some-clause-least
returns-in-Some-clause-least c = λ v s is. mark_le _ _ v s (c.in-Some.ensures.least (v, s) is)

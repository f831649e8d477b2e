use Rattle.lb_chain.proofs.Kept.{seen_are}
use Rattle.lb_chain.proofs.laws.seen_are_rules.Goals as goal

pub returns : goal.returns
returns c = seen_are c.recent_are_passes.ensures

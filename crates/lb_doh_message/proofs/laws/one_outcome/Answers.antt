use Rattle.lb_doh_message.proofs.Outcomes.{one_outcome}
use Rattle.lb_doh_message.proofs.laws.one_outcome.Goals as goal

pub returns : goal.returns
returns c = one_outcome

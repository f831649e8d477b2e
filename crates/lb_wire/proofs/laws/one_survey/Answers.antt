use Rattle.lb_wire.proofs.Replies.{one_found}
use Rattle.lb_wire.proofs.laws.one_survey.Goals as goal

pub returns : goal.returns
returns c = one_found c.labels_go_on.ensures

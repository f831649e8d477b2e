use Rattle.lb_wire.proofs.OneMessage.{one_layout}
use Rattle.lb_wire.proofs.laws.one_message.Goals as goal

pub returns : goal.returns
returns c = one_layout c.labels_go_on.ensures

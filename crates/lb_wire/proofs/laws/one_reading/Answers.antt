use Rattle.lb_wire.proofs.OneMessage.{one_reading_of}
use Rattle.lb_wire.proofs.laws.one_reading.Goals as goal

pub returns : goal.returns
returns c = one_reading_of c.labels_go_on.ensures

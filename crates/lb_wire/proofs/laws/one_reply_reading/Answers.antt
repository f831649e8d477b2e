use Rattle.lb_wire.proofs.Replies.{one_reply}
use Rattle.lb_wire.proofs.laws.one_reply_reading.Goals as goal

pub returns : goal.returns
returns c = one_reply c.labels_go_on.ensures

use Rattle.lb_desk.proofs.desk.Desk.called_with_room.Goals as goal

pub returns-clause-read : goal.returns-clause-read
returns-clause-read g c = rw c.keep.ensures.answer c.in_ok-answered.ensures.read

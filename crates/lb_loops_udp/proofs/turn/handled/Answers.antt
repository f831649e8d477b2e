use Rattle.lb_loops_udp.proofs.turn.handled.Goals as goal

pub returns-clause-led : goal.returns-clause-led
returns-clause-led g c = rw c.no_event.ensures c.answered.ensures.asked

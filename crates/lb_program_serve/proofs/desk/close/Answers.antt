use Rattle.lb_program_serve.proofs.Outputs.{served_ready}
use Rattle.lb_program_serve.proofs.desk.close.Goals as goal

pub returns-in-Ok : goal.returns-in-Ok
returns-in-Ok g c = λ old ready. c.tell_closed.ensures old _ _ c.in-Ok.ensures.closes ready

pub returns-in-Err : goal.returns-in-Err
returns-in-Err g c = λ old ready. served_ready g.J.Naming.opening g.J.Naming.limit old _ c.in-Err.fault ready

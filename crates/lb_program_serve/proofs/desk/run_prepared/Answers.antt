use Rattle.lb_program_serve.proofs.Outputs.{ready_then, served_unready}
use Rattle.lb_program_serve.proofs.desk.run_prepared.Goals as goal

pub returns-in-Ok-clause-ended : goal.returns-in-Ok-clause-ended
returns-in-Ok-clause-ended g c = ready_then _ _ c.left_of.result c.in-Ok.ensures.all

pub returns-in-Err-clause-ended : goal.returns-in-Err-clause-ended
returns-in-Err-clause-ended g c = λ opening limit. served_unready opening limit _ _ c.in-Err.error c.in-Err.ensures.front

use Rattle.std.proofs.Common.{refl}
use Rattle.lb_program_serve.proofs.Heard.{heard_said}
use Rattle.lb_program_serve.proofs.operator.Operator.answer.Goals as goal

pub returns-in-Err-clause-said : goal.returns-in-Err-clause-said
returns-in-Err-clause-said g c = heard_said c.args.line.now c.in-Err.fault _ _ c.in-Err.ensures.read refl c.hear.result c.hear.ensures

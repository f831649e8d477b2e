use Rattle.std.proofs.Common.{rules}
use Rattle.lb_program_serve.proofs.Outputs.{tells_nothing}
use Rattle.lb_program_serve.proofs.serving.tell.Goals as goal

pub returns-in-Ok-clause-told : goal.returns-in-Ok-clause-told
returns-in-Ok-clause-told g c = λ first says. rw c.in-Ok.is (tells_nothing first _ says)

use Rattle.std.proofs.Common.{None}
use Rattle.lb_doh_server.proofs.Stages.{said_of, waits_on}
use Rattle.lb_doh_server.specs.Answering.{IsSaidUnder}
use Rattle.lb_doh_server.proofs.answering.Answering.poll_message.Goals as goal

pub returns-in-Ok-Waits-clause-same : goal.returns-in-Ok-Waits-clause-same
returns-in-Ok-Waits-clause-same g c =
    let said : IsSaidUnder c.args.self.now.client c.args.message c.in-Ok-Waits.ticket None =
    said_of c.args.self.now.client c.args.message c.in-Ok-Waits.field-0 c.in-Ok-Waits.brought c.in-Ok-Waits.ticket c.in-Ok-Waits.field-0-is c.in-Ok-Waits.ensures.asked in
    waits_on c.args.self.now.client c.args.message c.in-Ok-Waits.ticket _ c.poll_answer.result said c.poll_answer.ensures.same

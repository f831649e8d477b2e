use denote.Param.Send.{sendable}
use Rattle.std.proofs.Crossing.{crosses}
use Rattle.lb_program_serve.proofs.Outputs.{served_nothing, served_ready}
use Rattle.lb_program_serve.proofs.desk.run_at_desk.Goals as goal

pub run_prepared-requires-send-T : goal.run_prepared-requires-send-T
run_prepared-requires-send-T g c κs within =
    let caller_send = c.callers_cross_threads.ensures in
    search (caller_send, sendable, crosses) depth 40 fits 10000

pub run_prepared-requires-send-G : goal.run_prepared-requires-send-G
run_prepared-requires-send-G g c κs within =
    let page_send = c.pages_cross_threads.ensures in
    search (page_send, sendable, crosses) depth 40 fits 10000

pub returns-in-Err-clause-ended : goal.returns-in-Err-clause-ended
returns-in-Err-clause-ended g c = served_nothing g.J.Naming.opening g.J.Naming.limit _ c.in-Err.fault

pub returns-in-Err-run_prepared-clause-ended : goal.returns-in-Err-run_prepared-clause-ended
returns-in-Err-run_prepared-clause-ended g c = c.in-Err-run_prepared.ensures.ended g.J.Naming.opening g.J.Naming.limit

pub returns-in-Err-gather-clause-ended : goal.returns-in-Err-gather-clause-ended
returns-in-Err-gather-clause-ended g c = served_ready g.J.Naming.opening g.J.Naming.limit _ _ _ c.in-Ok-run_prepared.ensures.ready

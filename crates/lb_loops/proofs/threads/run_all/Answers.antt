use denote.Param.Send.{sendable}
use Rattle.lb_loops.proofs.threads.run_all.Goals as goal

pub join-requires-after_bounds : goal.join-requires-after_bounds
join-requires-after_bounds g c κs within = (search sendable depth 20, search sendable depth 20)

use denote.Param.Send.{sendable}
use Rattle.lb_loops.proofs.Crosses.{caller_send}
use Rattle.lb_loops.specs.contracts.laws.callers_cross_threads.{J-row, R-row}
use Rattle.lb_loops.proofs.laws.callers_cross_threads.Goals as goal

pub returns : goal.returns
returns g c = λ a. caller_send a (R-row g.row.J g.row.R) (J-row g.row.J g.row.R) _ _ (search sendable) c.desks_cross_threads.ensures.desk c.desks_cross_threads.ensures.seat c.rings_cross_threads.ensures.send c.rings_cross_threads.ensures.sync

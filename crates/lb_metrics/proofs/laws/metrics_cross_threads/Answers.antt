use denote.Param.Send.{sendable}
use Rattle.lb_metrics.proofs.Crosses.{parts_send}
use Rattle.lb_metrics.specs.contracts.laws.metrics_cross_threads.{P-row}
use Rattle.lb_metrics.proofs.laws.metrics_cross_threads.Goals as goal

pub returns : goal.returns
returns g c = parts_send (P-row g.row.P) (search sendable)

use denote.Param.Send.{sendable}
use Rattle.lb_sockets.proofs.outside.SystemOutside.TheSendSync.{the_send}
use Rattle.lb_sockets.specs.contracts.laws.moments_cross_threads.{R-row}
use Rattle.lb_sockets.proofs.laws.moments_cross_threads.Goals as goal

pub returns : goal.returns
returns g c = λ a. the_send a (R-row g.row.R) (search sendable)

use denote.Param.Send.{sendable}
use Rattle.lb_doh.proofs.Crosses.{posts_send}
use Rattle.lb_doh.specs.contracts.laws.posts_cross_threads.{R-row}
use Rattle.lb_doh.proofs.laws.posts_cross_threads.Goals as goal

pub returns : goal.returns
returns g c = λ a. posts_send a (R-row g.row.R) (search sendable)

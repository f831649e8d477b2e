use denote.Param.Send.{sendable}
use Rattle.lb_program_serve.proofs.Crosses.{page_send}
use Rattle.lb_program_serve.specs.contracts.pages.pages_cross_threads.{J-row, R-row}
use Rattle.lb_program_serve.proofs.pages.pages_cross_threads.Goals as goal

pub returns : goal.returns
returns g c = λ a. page_send a (R-row g.row.J g.row.R) (J-row g.row.J g.row.R) _ _ (search sendable) c.desks_cross_threads.ensures.desk c.rings_cross_threads.ensures.send c.rings_cross_threads.ensures.sync c.sends_cross_threads.ensures.send c.sends_cross_threads.ensures.sync

use denote.Param.Send.{sendable}
use Rattle.lb_doh_server.proofs.Crosses.{parts_send}
use Rattle.lb_doh_server.specs.contracts.laws.fronts_cross_threads.{O-row, T-row, W-row}
use Rattle.lb_doh_server.proofs.laws.fronts_cross_threads.Goals as goal

pub returns : goal.returns
returns g c =
    parts_send (T-row g.row.T g.row.O g.row.W) (O-row g.row.T g.row.O g.row.W) (W-row g.row.T g.row.O g.row.W) (search sendable) (search sendable) (search sendable)

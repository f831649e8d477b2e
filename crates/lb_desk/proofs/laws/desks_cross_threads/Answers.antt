use Rattle.lb_desk.proofs.Crosses.{desk_sync, seat_send}
use Rattle.lb_desk.specs.contracts.laws.desks_cross_threads.{J-row}
use Rattle.lb_desk.proofs.laws.desks_cross_threads.Goals as goal

pub returns-clause-desk : goal.returns-clause-desk
returns-clause-desk g c = let law = c.balancers_cross_threads.ensures in desk_sync (J-row g.row.J) _ _ law.balancer law.event law.snapshot

pub returns-clause-seat : goal.returns-clause-seat
returns-clause-seat g c = seat_send (J-row g.row.J) _ _ c.balancers_cross_threads.ensures.event

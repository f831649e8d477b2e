use denote.Param.Send.{sendable}
use Rattle.std.proofs.Crossing.{crosses}
use Rattle.lb_loops_tests.proofs.rounds.call_all.Goals as goal

pub join-requires-send-F : goal.join-requires-send-F
join-requires-send-F g c κs within =
    let desk_sync = c.desks_cross_threads.ensures.desk in
    let seat_send = c.desks_cross_threads.ensures.seat in
    search (sendable, crosses) depth 40 fits 10000

pub join-requires-send-A : goal.join-requires-send-A
join-requires-send-A g c κs within =
    let seat_send = c.desks_cross_threads.ensures.seat in
    search (sendable, crosses) depth 40 fits 10000

use denote.Param.Send.{IsSend, IsSync, sendable}
use denote.RattleType.{RattleType}
use denote.Ref.{NamedLft}
use Rattle.lb_desk.specs.contracts.desk.Desk as Desk
use Rattle.lb_desk.specs.contracts.seat.Seat as Seat
use Rattle.lb_desk.specs.declared.naming.Naming as Naming
use Rattle.lb_loops_tests.proofs.loops.Order.TheSendSync.{the_send as order_send, the_sync as order_sync}
use Rattle.lb_loops_tests.specs.contracts.loops.Answering as Answering
use Rattle.std.proofs.Crossing.{crosses}
use Rattle.std.specs.declared.sync.ledger.Ledger as Ledger
use Rattle.lb_loops_tests.proofs.loops.run.Goals as goal

-- the handler of a test may go to another thread
module _ (a : NamedLft) (R T : RattleType) (n : Naming.Ghosts T.Denot) (l : Ledger.Ghosts T.Denot) where
  pub answering_send : IsSync R → IsSync (Desk.the_row T n l) → IsSend (Seat.the_row T n l) → IsSend (Answering.the_row a R T n l)
  answering_send r_sync desk_sync seat_send = search (order_send, order_sync, sendable, crosses) depth 40 fits 10000

pub run_loops-requires-send-T : goal.run_loops-requires-send-T
run_loops-requires-send-T g c κs within =
    let desk_sync = c.desks_cross_threads.ensures.desk in
    let seat_send = c.desks_cross_threads.ensures.seat in
    search (answering_send, sendable, crosses) depth 40 fits 10000

pub run_loops-requires-send-U : goal.run_loops-requires-send-U
run_loops-requires-send-U g c κs within =
    let desk_sync = c.desks_cross_threads.ensures.desk in
    let seat_send = c.desks_cross_threads.ensures.seat in
    search (answering_send, sendable, crosses) depth 40 fits 10000

pub run_loops-requires-send-V : goal.run_loops-requires-send-V
run_loops-requires-send-V g c κs within =
    let desk_sync = c.desks_cross_threads.ensures.desk in
    let seat_send = c.desks_cross_threads.ensures.seat in
    search (answering_send, sendable, crosses) depth 40 fits 10000

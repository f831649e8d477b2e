-- An event handler that calls a desk may go to another thread.
use denote.Param.Send.{IsSend, IsSync, sendable}
use denote.RattleType.{RattleType}
use denote.Ref.{NamedLft}
use Rattle.std.proofs.Crossing.{crosses}
use Rattle.std.specs.declared.sync.ledger.Ledger as Ledger
use Rattle.lb_desk.specs.contracts.desk.Desk as Desk
use Rattle.lb_desk.specs.contracts.seat.Seat as Seat
use Rattle.lb_desk.specs.declared.naming.Naming as Naming
use Rattle.lb_loops.specs.contracts.caller.Caller as Caller
use Rattle.lb_recent.specs.contracts.ring.Ring as Ring

module _ (a : NamedLft) (R T : RattleType) (n : Naming.Ghosts T.Denot) (l : Ledger.Ghosts T.Denot) where
  pub caller_send : IsSync R → IsSync (Desk.the_row T n l) → IsSend (Seat.the_row T n l) → IsSend Ring.the_row → IsSync Ring.the_row → IsSend (Caller.the_row a R T n l)
  caller_send r_sync desk_sync seat_send ring_send ring_sync = search (sendable, crosses) depth 40 fits 10000

-- What the front is made of may go to another thread.
use denote.Param.Send.{IsSend, sendable}
use denote.RattleType.{RattleType}
use Rattle.std.proofs.Crossing.{crosses}
use Rattle.lb_doh_server.proofs.serving.FrontParts.TheSendSync.{the_send}
use Rattle.lb_doh_server.specs.contracts.serving.FrontParts as Parts

module _ (T O W : RattleType) where
  pub parts_send : IsSend T → IsSend O → IsSend W → IsSend (Parts.the_row T O W)
  parts_send t_send o_send w_send = search (the_send, sendable, crosses) depth 40 fits 10000

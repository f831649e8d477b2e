-- What the service of metrics is made of may go to another thread.
use denote.Param.Send.{IsSend, sendable}
use denote.RattleType.{RattleType}
use Rattle.std.proofs.Crossing.{crosses}
use Rattle.lb_metrics.proofs.serving.MetricsParts.TheSendSync.{the_send}
use Rattle.lb_metrics.specs.contracts.serving.MetricsParts as Parts

module _ (P : RattleType) where
  pub parts_send : IsSend P → IsSend (Parts.the_row P)
  parts_send p_send = search (the_send, sendable, crosses) depth 40 fits 10000

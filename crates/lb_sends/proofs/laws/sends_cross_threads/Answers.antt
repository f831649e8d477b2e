use denote.Param.Send.{sendable}
use Rattle.std.proofs.Crossing.{crosses}
use Rattle.lb_sends.proofs.sends.Sends.TheSendSync.{the_send, the_sync}
use Rattle.lb_sends.proofs.laws.sends_cross_threads.Goals as goal

pub returns-clause-send : goal.returns-clause-send
returns-clause-send c = search (the_send, sendable, crosses) depth 40 fits 10000

pub returns-clause-sync : goal.returns-clause-sync
returns-clause-sync c = search (the_sync, sendable, crosses) depth 40 fits 10000

use denote.Param.Send.{sendable}
use Rattle.std.proofs.Crossing.{crosses}
use Rattle.lb_recent.proofs.ring.Kept.TheSendSync.{the_field_send as kept_send}
use Rattle.lb_recent.proofs.laws.rings_cross_threads.Goals as goal

pub returns-clause-send : goal.returns-clause-send
returns-clause-send = search (kept_send, sendable, crosses) depth 40 fits 10000

pub returns-clause-sync : goal.returns-clause-sync
returns-clause-sync = search (kept_send, sendable, crosses) depth 40 fits 10000

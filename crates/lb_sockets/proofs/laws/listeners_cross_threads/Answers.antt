use Rattle.lb_sockets.proofs.fronts.TcpListeners.TheSendSync.{the_send as fronts_send}
use Rattle.lb_sockets.proofs.listening.ListenSockets.TheSendSync.{the_send, the_sync}
use Rattle.lb_sockets.proofs.laws.listeners_cross_threads.Goals as goal

pub returns-clause-sent : goal.returns-clause-sent
returns-clause-sent c = the_send

pub returns-clause-shared : goal.returns-clause-shared
returns-clause-shared c = the_sync

pub returns-clause-streams : goal.returns-clause-streams
returns-clause-streams c = fronts_send

use denote.Param.{param}
use denote.Param.Send.{sendable}
use Rattle.lb_sockets.proofs.streams.TcpSockets.TheSendSync.{the_send}
use Rattle.lb_sockets.proofs.laws.streams_cross_threads.Goals as goal

pub returns : goal.returns
returns g c = λ a. the_send a (param 0 g.row.R) (param 2 g.row.R-Listener) (param 1 g.row.R-Stream) (search sendable)

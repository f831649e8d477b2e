use Rattle.std.proofs.Common.{arith}
use Rattle.lb_loops_clock.proofs.Places.{packet_missed}
use Rattle.lb_loops_clock.proofs.sending.send_packet.Goals as goal

pub returns-in-Err-clause-comes : goal.returns-in-Err-clause-comes
returns-in-Err-clause-comes g c = rw c.if-origin-ne0.false (packet_missed (g.S.Datagrams.listens c.args.sockets.now) c.args.origin.front (omega arith) _ _ _ _ _ _ c.in-Err.why c.in-Err.ensures.sent)

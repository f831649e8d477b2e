use Rattle.std.proofs.Common.{rules, tests}
use Rattle.lb_loops_udp.specs.Lines.{hears, listened}
use Rattle.lb_loops_udp.proofs.Reaches.{comes}
use Rattle.lb_loops_io.specs.declared.letter.End.TheVariants.{Server}
use Rattle.lb_loops_io.specs.declared.traffic.Socket.TheVariants as sockets
use Rattle.lb_loops_udp.proofs.sending.send_to_server.Goals as goal

pub returns-in-Stream-clause-comes : goal.returns-in-Stream-clause-comes
returns-in-Stream-clause-comes g c = (search (rules, tests), (record { socket = sockets.Server c.args.server c.args.lane.number c.in-Some.place.at; peer = c.in-Some.place.at; bytes = c.args.bytes.now }, search rules))

pub returns-in-Datagram-clause-comes : goal.returns-in-Datagram-clause-comes
returns-in-Datagram-clause-comes g c = comes c.args.roster.now.listed (g.S.Datagrams.listens c.args.sockets.now) (hears (listened (g.S.Datagrams.listens c.args.sockets.now))) (Server c.args.server c.args.lane, c.args.bytes.now) _ c.send.result (g.S.Datagrams.taken c.args.sockets.now) _ (search rules) (search rules) c.send.ensures.sent

use Rattle.std.proofs.Common.{subst}
use Rattle.lb_loops_udp.specs.Lines.{AreSent, hears}
use Rattle.lb_loops_udp.specs.Turn.{World}
use Rattle.lb_loops_udp.proofs.datagrams.DatagramLoop.send_all.Goals as goal

pub returns-clause-sent : goal.returns-clause-sent
returns-clause-sent g c = subst (λ (z : World). AreSent c.args.roster.now.listed (hears z.there) c.args.lines.now c.send_lines.new.lines) c.self.view_is c.send_lines.ensures.sent

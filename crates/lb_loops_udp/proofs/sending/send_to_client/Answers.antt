use Rattle.std.proofs.Common.{rules, tests, refl, arith}
use Rattle.lb_loops_udp.specs.Lines.{hears, listened}
use Rattle.lb_loops_udp.proofs.Reaches.{comes, heard_at}
use Rattle.lb_loops_io.specs.declared.letter.End.TheVariants.{Client}
use Rattle.lb_loops_udp.proofs.sending.send_to_client.Goals as goal

pub returns-then-origin-ne0-clause-comes : goal.returns-then-origin-ne0-clause-comes
returns-then-origin-ne0-clause-comes g c = (search (rules, tests), (_, refl))

pub returns-clause-comes : goal.returns-clause-comes
returns-clause-comes g c =
    let listens = g.S.Datagrams.listens c.args.sockets.now in
    let there = heard_at listens c.args.origin.front (omega arith) in
    comes c.args.roster.now.listed listens (hears (listened listens)) (Client c.args.origin, c.args.bytes.now) _ c.send.result (g.S.Datagrams.taken c.args.sockets.now) _ refl (rw there (search (rules, tests))) c.send.ensures.sent

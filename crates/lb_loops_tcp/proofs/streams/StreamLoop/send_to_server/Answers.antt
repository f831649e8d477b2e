use Rattle.std.proofs.Common.{rules, ◌≡◌, Some, refl, sym, subst}
use Rattle.lb_loops_io.specs.Roster.{end_of}
use Rattle.lb_loops_io.specs.declared.letter.End.TheVariants.{Server}
use Rattle.lb_loops_io.specs.declared.report.Sending.{Sending}
use Rattle.lb_loops_tcp.proofs.Letters.{server_done, server_failed}
use Rattle.lb_loops_tcp.specs.Turn.{Sends}
use Rattle.lb_loops_tcp.specs.World.{World}
use Rattle.lb_loops_tcp.proofs.streams.StreamLoop.send_to_server.Goals as goal
use Rattle.lb_loops_tcp.proofs.streams.StreamLoop.send_to_server.Goals.{in-Ok, in-Err}

pub returns-clause-sends : goal.returns-clause-sends
returns-clause-sends g c =
    let old : World = record { net = c.self.inside.links; jobs = c.self.inside.receiver; fronts = c.self.inside.fronts.items; handed = g.P.Posts.handed c.self.inside.posts; answered = g.T.Taker.answered c.self.inside.taker; pairs = g.T.Taker.pairs c.self.inside.taker; said = g.O.Outside.said c.self.inside.outside; outside = g.O.Outside.failures c.self.inside.outside } in
    let new : World = record old { net = c.send_to.new.self } in
    let roster = c.args.roster.now.listed in
    let there : end_of c.args.server roster ≡ Some c.in-Some.place.at = (search rules) in
    subst (λ (w : World). Sends roster w new (Some (Server c.args.server c.args.lane, c.args.bytes.now)) c.match-send_to.result) c.self.view_is
    (elim c.match-send_to.branch [
      | in-Ok w ↦ subst (λ (s : Sending). Sends roster old new (Some (Server c.args.server c.args.lane, c.args.bytes.now)) s) (sym w.result-is)
          (server_done roster old new c.args.server c.args.lane c.in-Some.place.at c.args.bytes.now w.in-Ok.number there w.in-Ok.ensures.goes c.send_to.ensures.settles w.in-Ok.ensures.to refl)
      | in-Err w ↦ subst (λ (s : Sending). Sends roster old new (Some (Server c.args.server c.args.lane, c.args.bytes.now)) s) (sym w.result-is)
          (server_failed roster old new c.args.server c.args.lane c.in-Some.place.at c.args.bytes.now w.in-Err.why there w.in-Err.ensures.goes c.send_to.ensures.settles w.in-Err.ensures.why refl)
    ])

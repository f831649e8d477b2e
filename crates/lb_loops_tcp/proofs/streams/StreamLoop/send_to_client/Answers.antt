use Rattle.std.proofs.Common.{◌≡◌, Some, false, refl, sym, ap, ◌∙◌, subst}
use Rattle.std.specs.Prelude.{slice_get}
use Rattle.lb_loops_io.specs.declared.letter.End.TheVariants.{Client}
use Rattle.lb_loops_io.specs.declared.report.Sending.{Sending}
use Rattle.lb_loops_tcp.proofs.Letters.{client_done, client_failed}
use Rattle.lb_loops_tcp.proofs.Settling.{but_on, settles_but}
use Rattle.lb_loops_tcp.proofs.Then.{goes_before, misses_before}
use Rattle.lb_loops_tcp.specs.Goes.{Settles, just, none}
use Rattle.lb_loops_tcp.specs.Lines.{is_http}
use Rattle.lb_loops_tcp.specs.Turn.{Sends}
use Rattle.lb_loops_tcp.specs.World.{World}
use Rattle.lb_loops_tcp.proofs.streams.StreamLoop.send_to_client.Goals as goal
use Rattle.lb_loops_tcp.proofs.streams.StreamLoop.send_to_client.Goals.{in-Ok, in-Err}

pub returns-clause-sends : goal.returns-clause-sends
returns-clause-sends g c =
    let old : World = record { net = c.self.inside.links; jobs = c.self.inside.receiver; fronts = c.self.inside.fronts.items; handed = g.P.Posts.handed c.self.inside.posts; answered = g.T.Taker.answered c.self.inside.taker; pairs = g.T.Taker.pairs c.self.inside.taker; said = g.O.Outside.said c.self.inside.outside; outside = g.O.Outside.failures c.self.inside.outside } in
    let new : World = record { net = c.put_behind.new.self; jobs = c.self.inside.receiver; fronts = c.self.inside.fronts.items; handed = g.P.Posts.handed c.self.inside.posts; answered = g.T.Taker.answered c.self.inside.taker; pairs = g.T.Taker.pairs c.self.inside.taker; said = g.O.Outside.said c.self.inside.outside; outside = g.O.Outside.failures c.self.inside.outside } in
    let roster = c.args.roster.now.listed in
    let slot = c.args.origin.slot in
    let bytes = c.args.bytes.now in
    let stream : is_http (slice_get old.fronts c.args.origin.front) ≡ false = ap (λ (w : World). is_http (slice_get w.fronts c.args.origin.front)) c.self.view_is ∙ sym c.is_http.ensures ∙ c.if-is_http.false in
    let settles : Settles old.net new.net = settles_but slot old.net new.net (but_on slot old.net c.pay.new.self new.net c.pay.ensures.others c.put_behind.ensures.others) c.put_behind.ensures.settled in
    subst (λ (w : World). Sends roster w new (Some (Client c.args.origin, bytes)) c.match-put_behind.result) c.self.view_is
    (elim c.match-put_behind.branch [
      | in-Ok w ↦ subst (λ (s : Sending). Sends roster old new (Some (Client c.args.origin, bytes)) s) (sym w.result-is)
          (client_done roster old new c.args.origin bytes stream (goes_before old.net c.pay.new.self new.net none (just slot bytes) c.pay.ensures.goes w.in-Ok.ensures.goes) settles refl)
      | in-Err w ↦ subst (λ (s : Sending). Sends roster old new (Some (Client c.args.origin, bytes)) s) (sym w.result-is)
          (client_failed roster old new c.args.origin bytes w.in-Err.why stream (goes_before old.net c.pay.new.self new.net none none c.pay.ensures.goes w.in-Err.ensures.goes) settles
          (misses_before old.net c.pay.new.self new.net slot bytes w.in-Err.why c.pay.ensures.goes w.in-Err.ensures.why) refl)
    ])

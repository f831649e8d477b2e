use Rattle.std.proofs.Common.{◌≡◌, ap, ◌∙◌, sym, subst}
use Rattle.lb_loops_clock.specs.News.{event_told}
use Rattle.lb_loops_clock.specs.Turn.{Sends, Tells}
use Rattle.lb_loops_clock.specs.World.{World, listened}
use Rattle.lb_loops_clock.proofs.Going.{tells_by}
use Rattle.lb_loops_io.specs.Counts.{Grows}
use Rattle.lb_loops_io.specs.Letter.{outcome_letter}
use Rattle.lb_loops_io.specs.Lines.{answered_as}
use Rattle.lb_loops_clock.proofs.clock.ClockLoop.tell.Goals as goal

pub returns-clause-tells : goal.returns-clause-tells
returns-clause-tells g c =
    let i = c.self.inside in
    let old : World = record { probes = i.probes; given = g.S.Datagrams.given i.sockets; taken = g.S.Datagrams.taken i.sockets; there = listened (g.S.Datagrams.listens i.sockets); failures = g.S.Datagrams.failures i.sockets; outbox = i.sender; fronts = i.fronts.items; handed = g.P.Posts.handed i.posts; answered = g.T.Taker.answered i.taker; pairs = g.T.Taker.pairs i.taker; said = g.O.Outside.said i.outside; outside = g.O.Outside.failures i.outside; reads = g.S.Datagrams.reads i.sockets } in
    let mid : World = record old { answered = g.T.Taker.answered c.outcome_of-outcome.new.taker; pairs = g.T.Taker.pairs c.outcome_of-outcome.new.taker } in
    let s = c.send_outcome-sending in
    let new = s.new.self in
    let sends : Sends mid new (outcome_letter c.of-reported.result c.outcome_of-outcome.result) s.result = s.ensures in
    let answered = c.outcome_of-outcome.ensures in
    let pairs : new.pairs ≡ mid.pairs = ap (λ (w : World). w.pairs) sends.same in
    let grows : Grows old.pairs new.pairs (answered_as c.event-event.result c.outcome_of-outcome.result) = subst (λ zs. Grows old.pairs zs (answered_as c.event-event.result c.outcome_of-outcome.result)) (sym pairs) answered.pairs in
    let same : new ≡ record old { taken = new.taken; outbox = new.outbox; handed = new.handed; answered = new.answered; pairs = new.pairs; failures = new.failures } =
    sends.same ∙ ap (λ (w : World). record old { taken = new.taken; outbox = new.outbox; handed = new.handed; failures = new.failures; answered = w.answered; pairs = w.pairs }) (sym sends.same) in
    subst (λ (z : World). Tells z new (event_told c.args.news c.args.now) c.outcome_of-outcome.result s.result) c.self.view_is
    (tells_by old new c.event-event.result c.of-reported.result (event_told c.args.news c.args.now) c.outcome_of-outcome.result s.result c.event-event.ensures (c.of-reported.ensures ∙ c.event-event.ensures) answered.is sends.comes sends.taken sends.sent sends.handed
    (ap (λ (w : World). w.answered) sends.same ∙ answered.answered) grows sends.failed same)

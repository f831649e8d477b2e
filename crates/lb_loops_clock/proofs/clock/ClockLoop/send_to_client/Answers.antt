use Rattle.std.proofs.Common.{◌≡◌, ℕ, Bool, List, Some, slice_get, refl, sym, ap, ◌∙◌, subst}
use Rattle.lb_loops_clock.specs.Turn.{Sends}
use Rattle.lb_loops_clock.specs.World.{World, listened}
use Rattle.lb_loops_clock.proofs.Letters.{sends_job, sends_packet, sends_post}
use Rattle.lb_loops_io.specs.declared.letter.End.TheVariants.{Client}
use Rattle.lb_loops_io.specs.declared.traffic.Datagram.{Datagram}
use Rattle.lb_loops_io.specs.declared.traffic.Service.{Service}
use Rattle.lb_loops_io.specs.declared.traffic.Service.TheVariants as services
use Rattle.lb_loops_clock.proofs.clock.ClockLoop.send_to_client.Goals as goal

pub returns-in-Some-Datagram : goal.returns-in-Some-Datagram
returns-in-Some-Datagram g c =
    let i = c.self.inside in
    let old : World = record { probes = i.probes; given = g.S.Datagrams.given i.sockets; taken = g.S.Datagrams.taken i.sockets; there = listened (g.S.Datagrams.listens i.sockets); failures = g.S.Datagrams.failures i.sockets; outbox = i.sender; fronts = i.fronts.items; handed = g.P.Posts.handed i.posts; answered = g.T.Taker.answered i.taker; pairs = g.T.Taker.pairs i.taker; said = g.O.Outside.said i.outside; outside = g.O.Outside.failures i.outside; reads = g.S.Datagrams.reads i.sockets } in
    let s = c.send_packet in
    let new : World = record { probes = i.probes; given = g.S.Datagrams.given s.new.sockets; taken = g.S.Datagrams.taken s.new.sockets; there = listened (g.S.Datagrams.listens s.new.sockets); failures = g.S.Datagrams.failures s.new.sockets; outbox = i.sender; fronts = i.fronts.items; handed = g.P.Posts.handed i.posts; answered = g.T.Taker.answered i.taker; pairs = g.T.Taker.pairs i.taker; said = g.O.Outside.said i.outside; outside = g.O.Outside.failures i.outside; reads = g.S.Datagrams.reads s.new.sockets } in
    let front : slice_get old.fronts c.args.origin.front ≡ Some services.Datagram = sym (ap (λ fs. slice_get fs c.args.origin.front) c.as_slice.ensures.value) ∙ sym c.service_of.ensures ∙ c.in-Some-Datagram.is ∙ ap (λ (f : Service). Some f) c.in-Some-Datagram.field-0-is in
    let same : new ≡ record old { taken = new.taken; failures = new.failures } =
    ap (λ (ds : List Datagram). record new { given = ds }) s.ensures.same.0 ∙ ap (λ (listens : ℕ → Bool). record new { given = old.given; there = listened listens }) s.ensures.same.1
    ∙ ap (λ (reads : ℕ). record new { given = old.given; there = old.there; reads = reads }) s.ensures.same.2 in
    subst (λ (z : World). Sends z new (Some (Client c.args.origin, c.args.bytes.now)) s.result) c.self.view_is
    (sends_packet old new c.args.origin c.args.bytes.now s.result front s.ensures.comes s.ensures.taken s.ensures.apart.0 s.ensures.apart.1 s.ensures.failed same)

pub returns-in-Some-Stream : goal.returns-in-Some-Stream
returns-in-Some-Stream g c =
    let i = c.self.inside in
    let old : World = record { probes = i.probes; given = g.S.Datagrams.given i.sockets; taken = g.S.Datagrams.taken i.sockets; there = listened (g.S.Datagrams.listens i.sockets); failures = g.S.Datagrams.failures i.sockets; outbox = i.sender; fronts = i.fronts.items; handed = g.P.Posts.handed i.posts; answered = g.T.Taker.answered i.taker; pairs = g.T.Taker.pairs i.taker; said = g.O.Outside.said i.outside; outside = g.O.Outside.failures i.outside; reads = g.S.Datagrams.reads i.sockets } in
    let s = c.send_job in
    let new : World = record { probes = i.probes; given = g.S.Datagrams.given i.sockets; taken = g.S.Datagrams.taken i.sockets; there = listened (g.S.Datagrams.listens i.sockets); failures = g.S.Datagrams.failures i.sockets; outbox = s.new.outbox; fronts = i.fronts.items; handed = g.P.Posts.handed i.posts; answered = g.T.Taker.answered i.taker; pairs = g.T.Taker.pairs i.taker; said = g.O.Outside.said i.outside; outside = g.O.Outside.failures i.outside; reads = g.S.Datagrams.reads i.sockets } in
    let front : slice_get old.fronts c.args.origin.front ≡ Some services.Stream = sym (ap (λ fs. slice_get fs c.args.origin.front) c.as_slice.ensures.value) ∙ sym c.service_of.ensures ∙ c.in-Some-Stream.is ∙ ap (λ (f : Service). Some f) c.in-Some-Stream.field-0-is in
    subst (λ (z : World). Sends z new (Some (Client c.args.origin, c.args.bytes.now)) s.result) c.self.view_is
    (sends_job old new c.args.origin c.args.bytes.now s.result front s.ensures.comes s.ensures.sent s.ensures.apart.0 s.ensures.apart.1 s.ensures.device refl)

pub returns-in-Some-Http : goal.returns-in-Some-Http
returns-in-Some-Http g c =
    let i = c.self.inside in
    let old : World = record { probes = i.probes; given = g.S.Datagrams.given i.sockets; taken = g.S.Datagrams.taken i.sockets; there = listened (g.S.Datagrams.listens i.sockets); failures = g.S.Datagrams.failures i.sockets; outbox = i.sender; fronts = i.fronts.items; handed = g.P.Posts.handed i.posts; answered = g.T.Taker.answered i.taker; pairs = g.T.Taker.pairs i.taker; said = g.O.Outside.said i.outside; outside = g.O.Outside.failures i.outside; reads = g.S.Datagrams.reads i.sockets } in
    let s = c.hand in
    let new : World = record { probes = i.probes; given = g.S.Datagrams.given i.sockets; taken = g.S.Datagrams.taken i.sockets; there = listened (g.S.Datagrams.listens i.sockets); failures = g.S.Datagrams.failures i.sockets; outbox = i.sender; fronts = i.fronts.items; handed = g.P.Posts.handed s.new.posts; answered = g.T.Taker.answered i.taker; pairs = g.T.Taker.pairs i.taker; said = g.O.Outside.said i.outside; outside = g.O.Outside.failures i.outside; reads = g.S.Datagrams.reads i.sockets } in
    let front : slice_get old.fronts c.args.origin.front ≡ Some services.Http = sym (ap (λ fs. slice_get fs c.args.origin.front) c.as_slice.ensures.value) ∙ sym c.service_of.ensures ∙ c.in-Some-Http.is ∙ ap (λ (f : Service). Some f) c.in-Some-Http.field-0-is in
    subst (λ (z : World). Sends z new (Some (Client c.args.origin, c.args.bytes.now)) s.result) c.self.view_is
    (sends_post old new c.args.origin c.args.bytes.now s.result front s.ensures.comes s.ensures.handed s.ensures.apart.0 s.ensures.apart.1 s.ensures.device refl)

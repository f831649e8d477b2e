use Rattle.std.proofs.Common.{◌≡◌, ◌+◌, [], ◌∷◌, ◌++◌, false, refl, sym, ap, ◌∙◌, subst}
use Rattle.std.specs.Prelude.{length}
use Rattle.lb_loops_connections.specs.Table.{IsFirst}
use Rattle.lb_step.specs.declared.event.Event.{Event}
use Rattle.lb_loops_io.specs.Counts.{Grows}
use Rattle.lb_loops_io.specs.Letter.{IsOutcome, outcome_letter}
use Rattle.lb_loops_io.specs.Lines.{answered_as}
use Rattle.lb_loops_io.specs.declared.report.Line.TheVariants as lines
use Rattle.lb_loops_io.specs.declared.report.Source.TheVariants as sources
use Rattle.lb_loops_tcp.proofs.Settling.{but_on, settles_around}
use Rattle.lb_loops_tcp.proofs.Then.{goes_after}
use Rattle.lb_loops_tcp.proofs.Turning.{turns_told}
use Rattle.lb_loops_tcp.proofs.streams.StreamLoop.answered.Goals as goal
use Rattle.lb_loops_tcp.specs.Goes.{Goes, SameBut, Settles, just, none}
use Rattle.lb_loops_tcp.specs.Turn.{Sends, Turns}
use Rattle.lb_loops_tcp.specs.World.{World}

pub returns-clause-turns : goal.returns-clause-turns
returns-clause-turns g c = λ said stamp.
    let a : World = record { net = c.self.inside.links; jobs = c.self.inside.receiver; fronts = c.self.inside.fronts.items; handed = g.P.Posts.handed c.self.inside.posts; answered = g.T.Taker.answered c.self.inside.taker; pairs = g.T.Taker.pairs c.self.inside.taker; said = g.O.Outside.said c.self.inside.outside; outside = g.O.Outside.failures c.self.inside.outside } in
    let mid : World = record { net = c.owe.new.self; jobs = c.self.inside.receiver; fronts = c.self.inside.fronts.items; handed = g.P.Posts.handed c.self.inside.posts; answered = g.T.Taker.answered c.outcome_of-outcome.new.taker; pairs = g.T.Taker.pairs c.outcome_of-outcome.new.taker; said = g.O.Outside.said c.self.inside.outside; outside = g.O.Outside.failures c.self.inside.outside } in
    let sent : World = record { net = c.self-2.inside.links; jobs = c.self-2.inside.receiver; fronts = c.self-2.inside.fronts.items; handed = g.P.Posts.handed c.self-2.inside.posts; answered = g.T.Taker.answered c.self-2.inside.taker; pairs = g.T.Taker.pairs c.self-2.inside.taker; said = g.O.Outside.said c.self-2.inside.outside; outside = g.O.Outside.failures c.self-2.inside.outside } in
    let b : World = record { net = c.settle.new.self; jobs = c.self-2.inside.receiver; fronts = c.self-2.inside.fronts.items; handed = g.P.Posts.handed c.self-2.inside.posts; answered = g.T.Taker.answered c.self-2.inside.taker; pairs = g.T.Taker.pairs c.self-2.inside.taker; said = g.O.Outside.said c.self-2.inside.outside; outside = g.O.Outside.failures c.self-2.inside.outside } in
    let roster = c.args.roster.now.listed in
    let n = c.args.heard.number in
    let told : Event = c.of-told.result in
    let same_event : c.args.event ≡ told = sym c.of-told.ensures in
    let message = c.requires.first.0 in
    let outcome = c.outcome_of-outcome.result in
    let sending = c.send_outcome-sending.result in
    let first : IsFirst n c.args.heard.peer message a.net.table = subst (λ (w : World). IsFirst n c.args.heard.peer message w.net.table) (sym c.self.view_is) c.requires.first.2 in
    let said_now : a.said ≡ said ++ (c.args.heard.moment, c.args.heard.word) ∷ [] = ap (λ (w : World). w.said) c.self.view_is ∙ stamp in
    let took : Goes a.net mid.net (just n message) none = goes_after a.net c.drop_first.new.self mid.net (just n message) none (c.drop_first.ensures.goes c.args.heard.peer message first) c.owe.ensures.goes in
    let counted : mid.answered ≡ a.answered + length (answered_as told outcome) = subst (λ (e : Event). mid.answered ≡ a.answered + length (answered_as e outcome)) same_event c.outcome_of-outcome.ensures.answered in
    let grows : Grows a.pairs mid.pairs (answered_as told outcome) = subst (λ (e : Event). Grows a.pairs mid.pairs (answered_as e outcome)) same_event c.outcome_of-outcome.ensures.pairs in
    let is : IsOutcome told outcome = subst (λ (e : Event). IsOutcome e outcome) same_event c.outcome_of-outcome.ensures.is in
    let sends : Sends roster mid sent (outcome_letter told outcome) sending = subst (λ (w : World). Sends roster mid w (outcome_letter told outcome) sending) (sym c.self-2.view_is) c.send_outcome-sending.ensures.sends in
    let took_others : SameBut n a.net mid.net = but_on n a.net c.drop_first.new.self mid.net (c.drop_first.ensures.others c.args.heard.peer message first) c.owe.ensures.others in
    let settles : Settles a.net b.net = settles_around n a.net mid.net sent.net b.net took_others sends.settles c.settle.ensures.others c.settle.ensures.settled in
    subst (λ (w : World). Turns roster 1 0 (record w { said = said }) b (lines.Event (sources.Connection n) told outcome sending ∷ []) false) c.self.view_is
    (turns_told roster a mid sent b n c.args.heard.moment c.args.heard.word c.args.heard.peer message told outcome sending said first (c.of-told.ensures ∙ c.requires.first.1) said_now took refl counted grows is sends c.settle.ensures.goes settles refl)

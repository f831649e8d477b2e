use Rattle.std.proofs.Common.{rules, ◌≡◌, ◌++◌, ◌+◌, List, length, map, drop, take, option_to_list, sym, ap, ◌∙◌, subst}
use Rattle.lb_loops_udp.specs.Lines.{AreAsked, AreLines, hears}
use Rattle.lb_loops_udp.specs.Turn.{Stamps, Turns, World}
use Rattle.lb_loops_udp.proofs.Sends.{front_of, sends_first, sent_events, sent_lines, sent_pairs}
use Rattle.lb_loops_io.specs.Counts.{Grows}
use Rattle.lb_loops_io.specs.Events.{heard, timeless}
use Rattle.lb_loops_io.specs.Lines.{FirstFault, events_in, pairs}
use Rattle.lb_loops_io.specs.declared.report.Line.{Line}
use Rattle.lb_loops_udp.proofs.turn.datagram_turn.Goals as goal

pub returns-clause-heard : goal.returns-clause-heard
returns-clause-heard g c =
    let items = c.all_rounds-lines.result.lines.items in
    let ls : List Line = c.deref_mut.result.now in
    let ks : List Line = c.send_all-failed.new.lines in
    let back : take c.all_rounds-lines.result.lines.len (ks ++ drop (length ks) items) ≡ ks = front_of c.all_rounds-lines.result.lines.len ks (drop (length ks) items) (sym c.deref_mut.ensures.len ∙ sym c.send_all-failed.auto.lines) in
    let front : ls ≡ items = search rules in
    let turned : Turns 64 (record c.args.part.now { room = c.room.new.self.room }) c.all_rounds-lines.new.self items (option_to_list c.all_rounds-lines.result.held) c.all_rounds-lines.result.device = subst (λ (w : World). Turns 64 w c.all_rounds-lines.new.self items (option_to_list c.all_rounds-lines.result.held) c.all_rounds-lines.result.device) c.room.ensures.same c.all_rounds-lines.ensures.turned in
    let roster = c.args.roster.now.listed in
    let listens = hears c.all_rounds-lines.new.self.there in
    let asked : AreAsked ls = subst AreAsked (sym front) turned.asked in
    let sent = c.send_all-failed.ensures.sent in
    let events : events_in items ≡ events_in (take c.all_rounds-lines.result.lines.len (ks ++ drop (length ks) items)) = sym (ap events_in front) ∙ sym (sent_events roster listens ls ks asked sent) ∙ sym (ap events_in back) in
    let held = option_to_list c.all_rounds-lines.result.held in
    ap (λ (w : World). heard w.given) c.send_all-failed.ensures.same ∙ turned.heard_all ∙ ap (λ es. heard c.args.part.now.given ++ map timeless (es ++ held)) events

pub returns-clause-stamped : goal.returns-clause-stamped
returns-clause-stamped g c =
    let items = c.all_rounds-lines.result.lines.items in
    let ls : List Line = c.deref_mut.result.now in
    let ks : List Line = c.send_all-failed.new.lines in
    let back : take c.all_rounds-lines.result.lines.len (ks ++ drop (length ks) items) ≡ ks = front_of c.all_rounds-lines.result.lines.len ks (drop (length ks) items) (sym c.deref_mut.ensures.len ∙ sym c.send_all-failed.auto.lines) in
    let front : ls ≡ items = search rules in
    let turned : Turns 64 (record c.args.part.now { room = c.room.new.self.room }) c.all_rounds-lines.new.self items (option_to_list c.all_rounds-lines.result.held) c.all_rounds-lines.result.device = subst (λ (w : World). Turns 64 w c.all_rounds-lines.new.self items (option_to_list c.all_rounds-lines.result.held) c.all_rounds-lines.result.device) c.room.ensures.same c.all_rounds-lines.ensures.turned in
    let roster = c.args.roster.now.listed in
    let listens = hears c.all_rounds-lines.new.self.there in
    let asked : AreAsked ls = subst AreAsked (sym front) turned.asked in
    let sent = c.send_all-failed.ensures.sent in
    let events : events_in items ≡ events_in (take c.all_rounds-lines.result.lines.len (ks ++ drop (length ks) items)) = sym (ap events_in front) ∙ sym (sent_events roster listens ls ks asked sent) ∙ sym (ap events_in back) in
    let held = option_to_list c.all_rounds-lines.result.held in
    subst (λ (w : World). Stamps c.args.part.now.said w.said (events_in (take c.all_rounds-lines.result.lines.len (ks ++ drop (length ks) items)) ++ held) 64) (sym c.send_all-failed.ensures.same)
    (subst (λ es. Stamps c.args.part.now.said c.all_rounds-lines.new.self.said (es ++ held) 64) events turned.stamps)

pub returns-clause-lines : goal.returns-clause-lines
returns-clause-lines g c =
    let items = c.all_rounds-lines.result.lines.items in
    let ls : List Line = c.deref_mut.result.now in
    let ks : List Line = c.send_all-failed.new.lines in
    let back : take c.all_rounds-lines.result.lines.len (ks ++ drop (length ks) items) ≡ ks = front_of c.all_rounds-lines.result.lines.len ks (drop (length ks) items) (sym c.deref_mut.ensures.len ∙ sym c.send_all-failed.auto.lines) in
    let front : ls ≡ items = search rules in
    let turned : Turns 64 (record c.args.part.now { room = c.room.new.self.room }) c.all_rounds-lines.new.self items (option_to_list c.all_rounds-lines.result.held) c.all_rounds-lines.result.device = subst (λ (w : World). Turns 64 w c.all_rounds-lines.new.self items (option_to_list c.all_rounds-lines.result.held) c.all_rounds-lines.result.device) c.room.ensures.same c.all_rounds-lines.ensures.turned in
    let roster = c.args.roster.now.listed in
    let listens = hears c.all_rounds-lines.new.self.there in
    let asked : AreAsked ls = subst AreAsked (sym front) turned.asked in
    let sent = c.send_all-failed.ensures.sent in
    subst (λ there. AreLines roster (hears there) (take c.all_rounds-lines.result.lines.len (ks ++ drop (length ks) items))) turned.there
    (subst (λ zs. AreLines roster listens zs) (sym back) (sent_lines roster listens ls ks asked sent))

pub returns-clause-answered : goal.returns-clause-answered
returns-clause-answered g c =
    let items = c.all_rounds-lines.result.lines.items in
    let ls : List Line = c.deref_mut.result.now in
    let ks : List Line = c.send_all-failed.new.lines in
    let back : take c.all_rounds-lines.result.lines.len (ks ++ drop (length ks) items) ≡ ks = front_of c.all_rounds-lines.result.lines.len ks (drop (length ks) items) (sym c.deref_mut.ensures.len ∙ sym c.send_all-failed.auto.lines) in
    let front : ls ≡ items = search rules in
    let turned : Turns 64 (record c.args.part.now { room = c.room.new.self.room }) c.all_rounds-lines.new.self items (option_to_list c.all_rounds-lines.result.held) c.all_rounds-lines.result.device = subst (λ (w : World). Turns 64 w c.all_rounds-lines.new.self items (option_to_list c.all_rounds-lines.result.held) c.all_rounds-lines.result.device) c.room.ensures.same c.all_rounds-lines.ensures.turned in
    let roster = c.args.roster.now.listed in
    let listens = hears c.all_rounds-lines.new.self.there in
    let asked : AreAsked ls = subst AreAsked (sym front) turned.asked in
    let sent = c.send_all-failed.ensures.sent in
    let answered : pairs items ≡ pairs (take c.all_rounds-lines.result.lines.len (ks ++ drop (length ks) items)) = sym (ap pairs front) ∙ sym (sent_pairs roster listens ls ks asked sent) ∙ sym (ap pairs back) in
    ap (λ (w : World). w.answered) c.send_all-failed.ensures.same ∙ turned.counted ∙ ap (λ ps. c.args.part.now.answered + length ps) answered

pub returns-clause-pairs : goal.returns-clause-pairs
returns-clause-pairs g c =
    let items = c.all_rounds-lines.result.lines.items in
    let ls : List Line = c.deref_mut.result.now in
    let ks : List Line = c.send_all-failed.new.lines in
    let back : take c.all_rounds-lines.result.lines.len (ks ++ drop (length ks) items) ≡ ks = front_of c.all_rounds-lines.result.lines.len ks (drop (length ks) items) (sym c.deref_mut.ensures.len ∙ sym c.send_all-failed.auto.lines) in
    let front : ls ≡ items = search rules in
    let turned : Turns 64 (record c.args.part.now { room = c.room.new.self.room }) c.all_rounds-lines.new.self items (option_to_list c.all_rounds-lines.result.held) c.all_rounds-lines.result.device = subst (λ (w : World). Turns 64 w c.all_rounds-lines.new.self items (option_to_list c.all_rounds-lines.result.held) c.all_rounds-lines.result.device) c.room.ensures.same c.all_rounds-lines.ensures.turned in
    let roster = c.args.roster.now.listed in
    let listens = hears c.all_rounds-lines.new.self.there in
    let asked : AreAsked ls = subst AreAsked (sym front) turned.asked in
    let sent = c.send_all-failed.ensures.sent in
    let answered : pairs items ≡ pairs (take c.all_rounds-lines.result.lines.len (ks ++ drop (length ks) items)) = sym (ap pairs front) ∙ sym (sent_pairs roster listens ls ks asked sent) ∙ sym (ap pairs back) in
    subst (λ (w : World). Grows c.args.part.now.pairs w.pairs (pairs (take c.all_rounds-lines.result.lines.len (ks ++ drop (length ks) items)))) (sym c.send_all-failed.ensures.same)
    (subst (λ ps. Grows c.args.part.now.pairs c.all_rounds-lines.new.self.pairs ps) answered turned.grows)

pub returns-clause-device : goal.returns-clause-device
returns-clause-device g c =
    let items = c.all_rounds-lines.result.lines.items in
    let turned : Turns 64 (record c.args.part.now { room = c.room.new.self.room }) c.all_rounds-lines.new.self items (option_to_list c.all_rounds-lines.result.held) c.all_rounds-lines.result.device = subst (λ (w : World). Turns 64 w c.all_rounds-lines.new.self items (option_to_list c.all_rounds-lines.result.held) c.all_rounds-lines.result.device) c.room.ensures.same c.all_rounds-lines.ensures.turned in
    subst (λ (w : World). FirstFault c.or.result c.args.part.now.failures c.send_all-failed.new.self.failures c.args.part.now.outside w.outside) (sym c.send_all-failed.ensures.same)
    (subst (λ f. FirstFault f c.args.part.now.failures c.send_all-failed.new.self.failures c.args.part.now.outside c.all_rounds-lines.new.self.outside) (sym c.or.ensures)
    (sends_first c.send_all-failed.result c.all_rounds-lines.result.device _ _ _ _ _ c.send_all-failed.ensures.clear (c.send_all-failed.ensures.device _) turned.first))

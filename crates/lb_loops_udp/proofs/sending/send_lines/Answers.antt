use Rattle.std.proofs.Common.{rules, ◌≡◌, ℕ, Bool, ◌<◌, length, get_or, sym, ◌∙◌, subst, arith}
use Rattle.lb_loops_udp.specs.Lines.{IsAsked, IsSent, hears, listened}
use Rattle.lb_loops_udp.proofs.Sends.{asked_at, failed_more, line_clear, line_fault, same_behind, same_here, sent_more, taken_more}
use Rattle.lb_loops_io.specs.Lines.{FirstFault, is_by_device}
use Rattle.lb_loops_io.specs.Ways.{sending_of}
use Rattle.lb_loops_udp.proofs.sending.send_lines.Goals as goal

pub send_line-requires : goal.send_line-requires
send_line-requires g c =
    let at = c.loop-line.line-index in
    let lt : at < length c.args.lines.now = c.loop-line-test.true in
    let same = c.loop-line.auto.lines in
    let within : at < length c.loop-line.lines = omega arith in
    let here : get_or c.loop-line.lines at c.line-item.result ≡ get_or c.args.lines.now at c.line-item.result = same_here c.args.lines.now c.loop-line.lines at c.line-item.result lt within c.loop-line.invariant.1 in
    record { asked = subst IsAsked (sym here) (asked_at c.args.lines.now at c.line-item.result lt c.requires.asked) }

pub loop-line-preserved : goal.loop-line-preserved
loop-line-preserved g c =
    let inv = c.loop-line.invariant in
    let at = c.loop-line.line-index in
    let xs = c.args.lines.now in
    let ys = c.loop-line.lines in
    let d = c.line-item.result in
    let y = c.send_line.new.line in
    let roster = c.args.roster.now.listed in
    let lt : at < length xs = c.loop-line-test.true in
    let same = c.loop-line.auto.lines in
    let within : at < length ys = omega arith in
    let s = g.S.Datagrams.failures c.args.sockets.now in
    let s' = g.S.Datagrams.failures c.loop-line.sockets in
    let s'' = g.S.Datagrams.failures c.send_line.new.sockets in
    let fault = is_by_device (sending_of y) in
    let here : get_or ys at d ≡ get_or xs at d = same_here xs ys at d lt within inv.1 in
    let there = hears (listened (g.S.Datagrams.listens c.args.sockets.now)) in
    let sent : IsSent roster there (get_or xs at d) y = subst (λ l. IsSent roster there l y) here (subst (λ (f : ℕ → Bool). IsSent roster (hears (listened f)) (get_or ys at d) y) inv.7 c.send_line.ensures.sent) in (
      sent_more roster there xs ys at d y lt within inv.0 sent,
      same_behind xs ys at d y lt within inv.1,
      taken_more roster (g.S.Datagrams.taken c.args.sockets.now) (g.S.Datagrams.taken c.loop-line.sockets) (g.S.Datagrams.taken c.send_line.new.sockets) ys at y within inv.2 c.send_line.ensures.taken,
      failed_more c.loop-line.device s s' s'' ys at y within (inv.4 0) inv.3 c.send_line.ensures.failed,
      λ o. c.first_fault-device.ensures.first s s' s'' o o o inv.5 (inv.4 o) (subst (λ f. FirstFault f s' s'' o o) (sym c.fault_in.ensures) (line_fault fault s' s'' o c.send_line.ensures.failed)),
      c.first_fault-device.ensures.clear inv.5 (λ e. line_clear fault (sym c.fault_in.ensures ∙ e)),
      search rules,
      search rules,
      search rules,
    )

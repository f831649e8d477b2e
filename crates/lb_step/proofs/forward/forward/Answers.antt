use Rattle.std.proofs.Common.{◌≡◌, ◌<◌, ℕ, Err, Ok, sym, subst, ◌∙◌, ap, List}
use Rattle.lb_wire.specs.declared.ids.ServerId.{ServerId}
use Rattle.lb_step.specs.Forward.{entry_of}
use Rattle.lb_step.specs.Upstream.{IsAsked, SendsBy}
use Rattle.lb_table.specs.declared.fault.EnterFault.TheVariants.{LaneFull}
use Rattle.lb_step.proofs.Forwards.{asked_by, full_on, sent_on}
use Rattle.lb_step.proofs.forward.forward.Goals as goal

pub send-requires-clause-given : goal.send-requires-clause-given
send-requires-clause-given c = subst (λ (server : ServerId). server.0 < c.args.upstream.now.next_server) (sym c.waiting-waiting.ensures.place) c.in-Some.ensures.given

pub send-requires-clause-asked : goal.send-requires-clause-asked
send-requires-clause-asked c =
    let entry : c.waiting-waiting.result.entry ≡ entry_of c.args.upstream.now c.args.asked.now c.args.bytes.items c.args.view.now c.args.ask =
    c.waiting-waiting.ensures.entry c.args.upstream.now (sym c.timeout.ensures) ∙ ap (λ (bytes : List ℕ). entry_of c.args.upstream.now c.args.asked.now bytes c.args.view.now c.args.ask) (c.from_vec-kept.ensures ∙ c.in-Ok.ensures.items ∙ c.as_slice.ensures.value) in
    subst IsAsked (sym entry) (asked_by c.args.upstream.now c.args.asked.now c.args.bytes.items c.args.view.now c.args.ask c.requires.view c.requires.key)

pub returns-in-Ok-send-clause-forwards : goal.returns-in-Ok-send-clause-forwards
returns-in-Ok-send-clause-forwards c =
    let ups = c.args.upstream.now in
    let waiting = c.waiting-waiting.result in
    let sends = subst (λ (server : ServerId). SendsBy ups c.args.routed.now.pool server c.args.asked.now.kind c.args.asked.now.word waiting.entry (Ok (c.in-Ok-send.lane, c.in-Ok-send.id)) c.send.new.self) c.waiting-waiting.ensures.place c.in-Ok-send.ensures in
    sent_on ups c.send.new.self c.args.asked.now c.args.bytes.items c.args.view.now c.args.routed.now c.args.ask c.in-Some.server c.in-Ok-send.lane c.in-Ok-send.id waiting.entry c.message.result
    c.in-Some.ensures.picked
    (c.waiting-waiting.ensures.entry ups (sym c.timeout.ensures) ∙ ap (λ (bytes : List ℕ). entry_of ups c.args.asked.now bytes c.args.view.now c.args.ask) (c.from_vec-kept.ensures ∙ c.in-Ok.ensures.items ∙ c.as_slice.ensures.value))
    c.message.ensures sends

pub returns-in-LaneFull-clause-forwards : goal.returns-in-LaneFull-clause-forwards
returns-in-LaneFull-clause-forwards c =
    let ups = c.args.upstream.now in
    let waiting = c.waiting-waiting.result in
    let full = rw c.in-LaneFull.is at c.in-Err-send.ensures in
    let sends = subst (λ (server : ServerId). SendsBy ups c.args.routed.now.pool server c.args.asked.now.kind c.args.asked.now.word waiting.entry (Err LaneFull) c.send.new.self) c.waiting-waiting.ensures.place full in
    full_on ups c.send.new.self c.args.asked.now c.args.bytes.items c.args.view.now c.args.routed.now c.args.ask c.in-Some.server waiting.entry c.refused-in-LaneFull.result
    c.in-Some.ensures.picked c.refused-in-LaneFull.ensures sends

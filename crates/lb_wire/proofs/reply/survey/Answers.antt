use Rattle.std.proofs.Common.{ℕ, Option, ◌∙◌, ap}
use Rattle.lb_wire.specs.Reply.{survey_of}
use Rattle.lb_wire.specs.Message.{Message}
use Rattle.lb_wire.specs.declared.tally.Tally.{Tally}
use Rattle.lb_wire.specs.declared.tally.Survey.{Survey}
use Rattle.lb_wire.proofs.Lays.{Opens, lays_there, opened, no_lays}
use Rattle.lb_wire.proofs.reply.survey.Goals as goal

pub returns-in_err-question_end : goal.returns-in_err-question_end
returns-in_err-question_end c = rw c.from_residual.ensures (λ m lays. no_lays _ c.in_err-question_end.ensures.none m lays)

pub returns-in_err-laid : goal.returns-in_err-laid
returns-in_err-laid c =
    let h = c.read_header-header in
    let q = c.in_ok-question_end.ensures.found in
    let opens : Opens c.args.bytes.now h.result q.0 c.in_ok-question_end.question_end = record { fits = h.ensures.fits; front = h.ensures.parts; asks = q.1 } in
    rw c.from_residual-in_err-laid.ensures (λ m lays. c.in_err-laid.ensures.none m.records m.rest (opened c.labels_go_on.ensures _ _ _ _ m opens lays))

pub returns : goal.returns
returns c =
    let h = c.read_header-header in
    let q = c.in_ok-question_end.ensures.found in
    let opens : Opens c.args.bytes.now h.result q.0 c.in_ok-question_end.question_end = record { fits = h.ensures.fits; front = h.ensures.parts; asks = q.1 } in
    let found = c.in_ok-laid.ensures.found in
    let m : Message = record { header = h.result; name = q.0.name; qtype = q.0.qtype; qclass = q.0.qclass; records = found.0; rest = found.1 } in
    let s : Survey = survey_of m in
    let all = ap (λ (t : Tally). t.least) found.4 in
    let answers = ap (λ (t : Tally). t.least) found.3 in
    let same = ap (λ (n : Option ℕ). record s { least_all = n; least_answer = c.in_ok-laid.laid.answers.least }) all ∙ ap (λ (n : Option ℕ). record s { least_answer = n }) answers in
    (m, lays_there _ _ _ _ _ found.0 opens c.if-header-ne1.false found.2, same)

use Rattle.std.proofs.Common.{◌≡◌, ℕ, Option, true, false, refl, sym, ◌∙◌, ap}
use Rattle.lb_wire.specs.Opt.{opts}
use Rattle.lb_wire.specs.Message.{Message}
use Rattle.lb_wire.specs.Tally.{is_two}
use Rattle.lb_wire.specs.Query.{view_of}
use Rattle.lb_wire.specs.declared.tally.Tally.{Tally}
use Rattle.lb_wire.specs.declared.opt.Opt.{Opt}
use Rattle.lb_wire.specs.declared.query.QueryView.{QueryView}
use Rattle.lb_wire.proofs.Lays.{Opens, lays_there, opened, no_lays}
use Rattle.lb_wire.proofs.Made.{not_twice}
use Rattle.lb_wire.proofs.Tallies.{not_two}
use Rattle.lb_wire.proofs.query.read_parts.Goals as goal

pub returns-in_default-clause-none : goal.returns-in_default-clause-none
returns-in_default-clause-none c = (refl, λ m lays few. no_lays _ c.in_default.ensures.none m lays)

pub returns-in_default-lay-clause-none : goal.returns-in_default-lay-clause-none
returns-in_default-lay-clause-none c =
    let opens : Opens c.args.bytes.now c.args.header c.in-Some.ensures.found.0 c.in-Some.question_end =
    record { fits = c.requires.fits; front = c.requires.parts; asks = c.in-Some.ensures.found.1 } in
    (refl, λ m lays few. c.in_default-lay.ensures.none m.records m.rest (opened c.labels_go_on.ensures _ _ _ _ m opens lays))

pub returns-then-laid-clause-none : goal.returns-then-laid-clause-none
returns-then-laid-clause-none c =
    let opens : Opens c.args.bytes.now c.args.header c.in-Some.ensures.found.0 c.in-Some.question_end =
    record { fits = c.requires.fits; front = c.requires.parts; asks = c.in-Some.ensures.found.1 } in
    let found = c.in-Some-lay.ensures.found in
    let two : is_two (opts found.0) ≡ true = ap (λ (t : Tally). t.twice) (sym found.4) ∙ c.if-laid.true in
    (refl, λ m lays few. not_twice c.labels_go_on.ensures _ _ m (lays_there _ _ _ _ _ found.0 opens c.if-header-ne1.false found.2) two lays few)

pub returns-clause-found : goal.returns-clause-found
returns-clause-found c =
    let q = c.question_to-question.result in
    let opens : Opens c.args.bytes.now c.args.header q c.in-Some.question_end =
    record { fits = c.requires.fits; front = c.requires.parts; asks = c.question_to-question.ensures.asks } in
    let found = c.in-Some-lay.ensures.found in
    let m : Message = record { header = c.args.header; name = q.name; qtype = q.qtype; qclass = q.qclass; records = found.0; rest = found.1 } in
    let v : QueryView = view_of m in
    let one : is_two (opts found.0) ≡ false = ap (λ (t : Tally). t.twice) (sym found.4) ∙ c.if-laid.false in
    let opt = ap (λ (t : Tally). t.opt) found.4 in
    let same = ap (λ (n : ℕ). record v { question_end = n; opt = c.in-Some-lay.laid.all.opt }) c.question_to-question.ensures.long ∙ ap (λ (o : Option Opt). record v { opt = o }) opt in
    (m, lays_there _ _ _ _ _ found.0 opens c.if-header-ne1.false found.2, not_two (opts found.0) one, refl, same)

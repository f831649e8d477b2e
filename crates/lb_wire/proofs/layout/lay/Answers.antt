use Rattle.std.proofs.Common.{◌≡◌, ◌+◌, ◌++◌, List, length, drop, take, sym, ◌∙◌, ap, arith}
use Rattle.std.proofs.lemmas.List.{take_at}
use Rattle.lb_wire.specs.Record.{Record}
use Rattle.lb_wire.specs.Tally.{tally_of, both_of}
use Rattle.lb_wire.specs.declared.tally.Tally.{Tally}
use Rattle.lb_wire.proofs.Lays.{no_answers, no_others, Holds-uncounted}
use Rattle.lb_wire.proofs.Holds.{Holds-both}
use Rattle.lb_wire.proofs.Tallies.{tally_of-append}
use Rattle.lb_wire.proofs.layout.lay.Goals as goal

pub returns-clause-found : goal.returns-clause-found
returns-clause-found c =
    let h = c.args.header in
    let first = c.in_ok-answers.ensures.found in
    let behind = c.in_ok-behind.ensures.found in
    let records = first.0 ++ behind.0 in
    let many : c.from.result + (c.from-2.result + c.from-3.result) ≡ h.answers + (h.authorities + h.additionals) = omega arith in
    let held = Holds-uncounted h _ _ _ (rw many at (Holds-both c.from.result (c.from-2.result + c.from-3.result) _ _ _ _ _ first.1 behind.1)) in
    let size : length first.0 ≡ h.answers = first.1.number ∙ c.from.ensures in
    let front : take h.answers records ≡ first.0 = take_at first.0 behind.0 h.answers size in
    let answers : c.in_ok-answers.answers ≡ tally_of (take h.answers records) = first.2 ∙ ap (λ (rs : List Record). tally_of rs) (sym front) in
    let all : c.and.result ≡ tally_of records =
    c.and.ensures ∙ ap (λ (t : Tally). both_of t c.in_ok-behind.behind) first.2 ∙ ap (λ (t : Tally). both_of (tally_of first.0) t) behind.2 ∙ sym (tally_of-append first.0 behind.0) in
    (records, drop c.in_ok-behind.field-0-1 c.args.bytes.now, held, answers, all)

pub returns-in_err-answers-clause-none : goal.returns-in_err-answers-clause-none
returns-in_err-answers-clause-none c = rw c.from_residual.ensures (no_answers c.args.header _ _ c.from.ensures c.in_err-answers.ensures.none)

pub returns-in_err-behind-clause-none : goal.returns-in_err-behind-clause-none
returns-in_err-behind-clause-none c = rw c.from_residual-in_err-behind.ensures (no_others c.labels_go_on.ensures c.args.header _ _ _ _ _ c.from.ensures (omega arith) c.in_ok-answers.ensures.found.1 c.in_err-behind.ensures.none)

use Rattle.std.proofs.Common.{◌≡◌, Bool, true, false, sym, ap, ◌∙◌, ◌-◌, arith}
use Rattle.std.proofs.lemmas.List.{length_push}
use Rattle.std.proofs.lemmas.Result.{err_from_is_err_and}
use Rattle.std.specs.Prelude.{codes}
use Rattle.lb_command.specs.Line.{Seen, first_of}
use Rattle.lb_command.specs.Values.{word_number}
use Rattle.lb_command.specs.Reading.{due, taken}
use Rattle.lb_command.specs.declared.fault.FaultKind.TheVariants.{BadNumber}
use Rattle.lb_command.proofs.Lists.{ends, fails, goes_on, is_too_many}
use Rattle.lb_command.proofs.skips.stated_codes.Goals as goal

pub returns-in_err-number : goal.returns-in_err-number
returns-in_err-number c =
    let p = err_from_is_err_and c.from_residual.result c.from_residual.ensures.1 in
    rw (p.1, p.2) (fails c.in_err-number.field-0.0 (due BadNumber word_number) (taken (codes ",")) (λ s. s) c.codes.stated.items (16 - c.codes.counter) c.codes.words _ c.in_err-number.ensures.read c.codes.invariant.0)

pub returns-then-not-takes : goal.returns-then-not-takes
returns-then-not-takes c =
    let k : taken (codes ",") c.number.new.self ≡ (false, c.takes.new.self) = sym c.takes.ensures ∙ ap (λ (b : Bool). (b, c.takes.new.self)) c.if-not-takes.true in
    rw c.push.ensures.items (ends (due BadNumber word_number) (taken (codes ",")) (λ s. s) c.codes.stated.items 16 c.codes.counter c.codes.words c.number.new.self c.takes.new.self c.in_ok-number.field-0 _ c.codes-test.true c.in_ok-number.ensures.read k c.codes.invariant.0)

pub codes-preserved : goal.codes-preserved
codes-preserved c =
    let k : taken (codes ",") c.number.new.self ≡ (true, c.takes.new.self) = sym c.takes.ensures ∙ ap (λ (b : Bool). (b, c.takes.new.self)) c.if-not-takes.false in (
      rw c.push.ensures.items (goes_on (due BadNumber word_number) (taken (codes ",")) (λ s. s) c.codes.stated.items 16 c.codes.counter c.codes.words c.number.new.self c.takes.new.self c.in_ok-number.field-0 _ c.codes-test.true c.in_ok-number.ensures.read k c.codes.invariant.0),
      omega (arith, c.push.ensures.len, c.codes.invariant.1),
    )

pub returns-in_err-number-2 : goal.returns-in_err-number-2
returns-in_err-number-2 c =
    let p = err_from_is_err_and c.from_residual-in_err-number-2.result c.from_residual-in_err-number-2.ensures.1 in
    rw (p.1, p.2) (fails c.in_err-number-2.field-0.0 (due BadNumber word_number) (taken (codes ",")) (λ s. s) c.codes.stated.items (16 - c.codes.counter) c.codes.words _ c.in_err-number-2.ensures.read c.codes.invariant.0)

pub returns : goal.returns
returns c =
    let place : c.peek-token.result.place ≡ (first_of c.codes.words).place = ap (λ (w : Seen). w.place) c.peek-token.ensures in
    rw (c.is_too_many.ensures, place) (is_too_many (due BadNumber word_number) (taken (codes ",")) (λ s. s) c.codes.stated.items 16 c.codes.counter c.codes.words c.number-2.new.self c.in_ok-number-2.field-0 _ c.codes-test.false c.in_ok-number-2.ensures.read c.codes.invariant.0)

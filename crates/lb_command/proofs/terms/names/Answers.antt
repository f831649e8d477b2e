use Rattle.std.proofs.Common.{◌≡◌, Bool, true, false, sym, ap, ◌∙◌, ◌-◌, codes}
use Rattle.std.proofs.lemmas.Result.{err_from_is_err_and}
use Rattle.lb_command.specs.Line.{Seen, first_of}
use Rattle.lb_command.specs.Values.{name_of}
use Rattle.lb_command.specs.Reading.{due, taken}
use Rattle.lb_command.specs.declared.fault.FaultKind.TheVariants.{BadName}
use Rattle.lb_command.proofs.Lists.{ends, fails, goes_on, is_too_many}
use Rattle.lb_command.proofs.terms.names.Goals as goal

pub returns-in_err-name : goal.returns-in_err-name
returns-in_err-name c =
    let p = err_from_is_err_and c.from_residual.result c.from_residual.ensures.1 in
    rw (p.1, p.2) (fails c.in_err-name.field-0.0 (due BadName name_of) (taken (codes ",")) (λ s. s) c.names.names (1024 - c.names.counter) c.names.words _ c.in_err-name.ensures c.names.invariant)

pub returns-then-not-takes : goal.returns-then-not-takes
returns-then-not-takes c =
    let k : taken (codes ",") c.name.new.words ≡ (false, c.takes.new.self) = sym c.takes.ensures ∙ ap (λ (b : Bool). (b, c.takes.new.self)) c.if-not-takes.true in
    rw (c.in_ok-push.ensures {u = tt}).ok (ends (due BadName name_of) (taken (codes ",")) (λ s. s) c.names.names 1024 c.names.counter c.names.words c.name.new.words c.takes.new.self c.in_ok-name.field-0 _ c.names-test.true c.in_ok-name.ensures k c.names.invariant)

pub names-preserved : goal.names-preserved
names-preserved c =
    let k : taken (codes ",") c.name.new.words ≡ (true, c.takes.new.self) = sym c.takes.ensures ∙ ap (λ (b : Bool). (b, c.takes.new.self)) c.if-not-takes.false in
    rw (c.in_ok-push.ensures {u = tt}).ok (goes_on (due BadName name_of) (taken (codes ",")) (λ s. s) c.names.names 1024 c.names.counter c.names.words c.name.new.words c.takes.new.self c.in_ok-name.field-0 _ c.names-test.true c.in_ok-name.ensures k c.names.invariant)

pub returns-in_err-name-2 : goal.returns-in_err-name-2
returns-in_err-name-2 c =
    let p = err_from_is_err_and c.from_residual-in_err-name-2.result c.from_residual-in_err-name-2.ensures.1 in
    rw (p.1, p.2) (fails c.in_err-name-2.field-0.0 (due BadName name_of) (taken (codes ",")) (λ s. s) c.names.names (1024 - c.names.counter) c.names.words _ c.in_err-name-2.ensures c.names.invariant)

pub returns : goal.returns
returns c =
    let place : c.peek-token.result.place ≡ (first_of c.names.words).place = ap (λ (w : Seen). w.place) c.peek-token.ensures in
    rw (c.is_too_many.ensures, place) (is_too_many (due BadName name_of) (taken (codes ",")) (λ s. s) c.names.names 1024 c.names.counter c.names.words c.name-2.new.words c.in_ok-name-2.field-0 _ c.names-test.false c.in_ok-name-2.ensures c.names.invariant)

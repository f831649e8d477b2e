use Rattle.std.proofs.Common.{◌≡◌, Bool, true, false, sym, ap, ◌∙◌, ◌-◌, codes}
use Rattle.std.proofs.lemmas.Result.{err_from_is_err_and}
use Rattle.lb_command.specs.Line.{Seen, first_of}
use Rattle.lb_command.specs.Values.{mask_of}
use Rattle.lb_command.specs.Reading.{due, taken}
use Rattle.lb_command.specs.declared.fault.FaultKind.TheVariants.{BadAddress}
use Rattle.lb_command.proofs.Lists.{ends, fails, goes_on, is_too_many}
use Rattle.lb_command.proofs.terms.masks.Goals as goal

pub returns-in_err-mask : goal.returns-in_err-mask
returns-in_err-mask c =
    let p = err_from_is_err_and c.from_residual.result c.from_residual.ensures.1 in
    rw (p.1, p.2) (fails c.in_err-mask.field-0.0 (due BadAddress mask_of) (taken (codes ",")) (λ s. s) c.masks.masks.items (1024 - c.masks.counter) c.masks.words _ c.in_err-mask.ensures c.masks.invariant)

pub returns-then-not-takes : goal.returns-then-not-takes
returns-then-not-takes c =
    let k : taken (codes ",") c.mask.new.words ≡ (false, c.takes.new.self) = sym c.takes.ensures ∙ ap (λ (b : Bool). (b, c.takes.new.self)) c.if-not-takes.true in
    rw c.in_ok-push.ensures.items (ends (due BadAddress mask_of) (taken (codes ",")) (λ s. s) c.masks.masks.items 1024 c.masks.counter c.masks.words c.mask.new.words c.takes.new.self c.in_ok-mask.field-0 _ c.masks-test.true c.in_ok-mask.ensures k c.masks.invariant)

pub masks-preserved : goal.masks-preserved
masks-preserved c =
    let k : taken (codes ",") c.mask.new.words ≡ (true, c.takes.new.self) = sym c.takes.ensures ∙ ap (λ (b : Bool). (b, c.takes.new.self)) c.if-not-takes.false in
    rw c.in_ok-push.ensures.items (goes_on (due BadAddress mask_of) (taken (codes ",")) (λ s. s) c.masks.masks.items 1024 c.masks.counter c.masks.words c.mask.new.words c.takes.new.self c.in_ok-mask.field-0 _ c.masks-test.true c.in_ok-mask.ensures k c.masks.invariant)

pub returns-in_err-mask-2 : goal.returns-in_err-mask-2
returns-in_err-mask-2 c =
    let p = err_from_is_err_and c.from_residual-in_err-mask-2.result c.from_residual-in_err-mask-2.ensures.1 in
    rw (p.1, p.2) (fails c.in_err-mask-2.field-0.0 (due BadAddress mask_of) (taken (codes ",")) (λ s. s) c.masks.masks.items (1024 - c.masks.counter) c.masks.words _ c.in_err-mask-2.ensures c.masks.invariant)

pub returns : goal.returns
returns c =
    let place : c.peek-token.result.place ≡ (first_of c.masks.words).place = ap (λ (w : Seen). w.place) c.peek-token.ensures in
    rw (c.is_too_many.ensures, place) (is_too_many (due BadAddress mask_of) (taken (codes ",")) (λ s. s) c.masks.masks.items 1024 c.masks.counter c.masks.words c.mask-2.new.words c.in_ok-mask-2.field-0 _ c.masks-test.false c.in_ok-mask-2.ensures c.masks.invariant)

use Rattle.std.proofs.Common.{◌≡◌, Bool, true, false, sym, ap, ◌∙◌, ◌-◌, codes}
use Rattle.std.proofs.lemmas.Result.{err_from_is_err_and}
use Rattle.lb_command.specs.Line.{Seen, first_of}
use Rattle.lb_command.specs.Values.{addr_of}
use Rattle.lb_command.specs.Reading.{due, taken}
use Rattle.lb_command.specs.declared.fault.FaultKind.TheVariants.{BadAddress}
use Rattle.lb_command.proofs.Lists.{ends, fails, goes_on, is_too_many}
use Rattle.lb_command.proofs.actions.addrs.Goals as goal

pub returns-in_err-addr : goal.returns-in_err-addr
returns-in_err-addr c =
    let p = err_from_is_err_and c.from_residual.result c.from_residual.ensures.1 in
    rw (p.1, p.2) (fails c.in_err-addr.field-0.0 (due BadAddress addr_of) (taken (codes ",")) (λ s. s) c.addrs.addrs.items (8 - c.addrs.counter) c.addrs.words _ c.in_err-addr.ensures c.addrs.invariant)

pub returns-then-not-takes : goal.returns-then-not-takes
returns-then-not-takes c =
    let k : taken (codes ",") c.addr.new.words ≡ (false, c.takes.new.self) = sym c.takes.ensures ∙ ap (λ (b : Bool). (b, c.takes.new.self)) c.if-not-takes.true in
    rw c.in_ok-push.ensures.items (ends (due BadAddress addr_of) (taken (codes ",")) (λ s. s) c.addrs.addrs.items 8 c.addrs.counter c.addrs.words c.addr.new.words c.takes.new.self c.in_ok-addr.field-0 _ c.addrs-test.true c.in_ok-addr.ensures k c.addrs.invariant)

pub addrs-preserved : goal.addrs-preserved
addrs-preserved c =
    let k : taken (codes ",") c.addr.new.words ≡ (true, c.takes.new.self) = sym c.takes.ensures ∙ ap (λ (b : Bool). (b, c.takes.new.self)) c.if-not-takes.false in
    rw c.in_ok-push.ensures.items (goes_on (due BadAddress addr_of) (taken (codes ",")) (λ s. s) c.addrs.addrs.items 8 c.addrs.counter c.addrs.words c.addr.new.words c.takes.new.self c.in_ok-addr.field-0 _ c.addrs-test.true c.in_ok-addr.ensures k c.addrs.invariant)

pub returns-in_err-addr-2 : goal.returns-in_err-addr-2
returns-in_err-addr-2 c =
    let p = err_from_is_err_and c.from_residual-in_err-addr-2.result c.from_residual-in_err-addr-2.ensures.1 in
    rw (p.1, p.2) (fails c.in_err-addr-2.field-0.0 (due BadAddress addr_of) (taken (codes ",")) (λ s. s) c.addrs.addrs.items (8 - c.addrs.counter) c.addrs.words _ c.in_err-addr-2.ensures c.addrs.invariant)

pub returns : goal.returns
returns c =
    let place : c.peek-token.result.place ≡ (first_of c.addrs.words).place = ap (λ (w : Seen). w.place) c.peek-token.ensures in
    rw (c.is_too_many.ensures, place) (is_too_many (due BadAddress addr_of) (taken (codes ",")) (λ s. s) c.addrs.addrs.items 8 c.addrs.counter c.addrs.words c.addr-2.new.words c.in_ok-addr-2.field-0 _ c.addrs-test.false c.in_ok-addr-2.ensures c.addrs.invariant)

use Rattle.std.proofs.Common.{◌≡◌, ℕ, ◌*◌, sym, ◌∙◌, ap, arith}
use Rattle.std.specs.Char.{digit_value}
use Rattle.lb_masks.proofs.Digits.{number_over}
use Rattle.lb_masks.proofs.number.number_up_to.Goals as goal

pub returns-then-next-from-clause-value : goal.returns-then-next-from-clause-value
returns-then-next-from-clause-value c =
    let product : c.from-in-digits.result * c.from-in-digits-2.result ≡ c.digits.number * c.args.radix = ap (λ (n : ℕ). n * c.from-in-digits-2.result) c.from-in-digits.ensures ∙ ap (λ (n : ℕ). c.digits.number * n) c.from-in-digits-2.ensures in
    sym (number_over c.args.radix c.args.most c.digits.number c.in_ok-digit.digit c.digits.byte-index c.args.text.now (omega arith) (omega arith) (c.in_ok-digit.ensures.value.1 ∙ ap (λ (b : ℕ). digit_value b) c.from.ensures) (omega (arith, product, c.if-next-from.true, c.from-in-digits-3.ensures, c.from-in-digits-4.ensures))) ∙ c.digits.invariant.1

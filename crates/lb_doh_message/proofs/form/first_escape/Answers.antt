use Rattle.std.proofs.Common.{◌≡◌, ◌+◌, ◌*◌, get_or, arith, rules}
use Rattle.std.proofs.lemmas.List.{take_rest}
use Rattle.std.specs.Char.{digit_value}
use Rattle.lb_doh_message.proofs.Forms.{keeps_first, decode_escape}
use Rattle.lb_doh_message.proofs.form.first_escape.Goals as goal

pub returns-in_default-clause-none : goal.returns-in_default-clause-none
returns-in_default-clause-none c = keeps_first _ (λ long percent high low. grind arith)

pub returns-in_err-high-clause-none : goal.returns-in_err-high-clause-none
returns-in_err-high-clause-none c = rw c.from_residual.ensures (keeps_first _ (λ long percent high low. search rules))

pub returns-in_err-low-clause-none : goal.returns-in_err-low-clause-none
returns-in_err-low-clause-none c = rw c.from_residual-in_err-low.ensures (keeps_first _ (λ long percent high low. search rules))

pub returns-clause-first : goal.returns-clause-first
returns-clause-first c =
    let raw = c.args.raw.now in
    let value : c.in_ok-high.high * 16 + c.in_ok-low.low ≡ 16 * digit_value (get_or raw 1 0) + digit_value (get_or raw 2 0) = grind arith in
    rw (take_rest raw 3, value) (decode_escape raw (omega arith) (search rules) (search rules) (search rules))

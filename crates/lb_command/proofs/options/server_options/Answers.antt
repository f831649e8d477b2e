use Rattle.std.proofs.Common.{◌≡◌, Some, None, sym, ap, ◌∙◌}
use Rattle.std.proofs.lemmas.Result.{err_from_is_err_and}
use Rattle.lb_command.specs.Line.{Seen, first_of}
use Rattle.lb_command.specs.Commands.{option_words}
use Rattle.lb_command.specs.Values.{looked_up}
use Rattle.lb_command.proofs.OptionSteps.{ends, fails, goes_on, is_full}
use Rattle.lb_command.proofs.options.server_options.Goals as goal

pub returns-in_default : goal.returns-in_default
returns-in_default c =
    let none : looked_up option_words (first_of c.options.words).text ≡ None = ap (λ (w : Seen). looked_up option_words w.text) (sym c.peek.ensures) ∙ sym c.option_of.ensures ∙ c.in_default.is in
    ends c.options.counter c.options.options c.options.words _ c.options-test.true none c.options.invariant

pub returns-in_err-options : goal.returns-in_err-options
returns-in_err-options c =
    let some : looked_up option_words (first_of c.options.words).text ≡ Some c.in-Some.option = ap (λ (w : Seen). looked_up option_words w.text) (sym c.peek.ensures) ∙ sym c.option_of.ensures ∙ c.in-Some.is in
    let p = err_from_is_err_and c.from_residual.result c.from_residual.ensures.1 in
    rw (p.1, p.2) (fails c.in_err-options.field-0.0 c.options.counter c.options.options c.options.words c.in-Some.option _ c.options-test.true some (rw (← c.next.ensures.left) c.in_err-options.ensures) c.options.invariant)

pub options-preserved : goal.options-preserved
options-preserved c =
    let some : looked_up option_words (first_of c.options.words).text ≡ Some c.in-Some.option = ap (λ (w : Seen). looked_up option_words w.text) (sym c.peek.ensures) ∙ sym c.option_of.ensures ∙ c.in-Some.is in
    goes_on c.options.counter c.options.options c.options.words c.in-Some.option (c.in_ok-options.options, c.read_option.new.words) _ c.options-test.true some (rw (← c.next.ensures.left) c.in_ok-options.ensures) c.options.invariant

pub returns : goal.returns
returns c = is_full c.options.counter c.options.options c.options.words _ c.options-test.false c.options.invariant

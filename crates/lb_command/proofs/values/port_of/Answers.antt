use Rattle.std.proofs.Common.{◌≡◌, Some, sym, ap, ◌∙◌, option_and_then}
use Rattle.lb_masks.specs.Number.{number_up_to}
use Rattle.lb_command.specs.Values.{non_zero_port}
use Rattle.lb_command.proofs.NonZeros.{port_from_new}
use Rattle.lb_command.proofs.values.port_of.Goals as goal

pub returns : goal.returns
returns c =
    let number : number_up_to 10 65535 c.args.text.now ≡ Some c.in_ok-decimal_up_to.field-0 = sym c.decimal_up_to.ensures.value ∙ c.in_ok-decimal_up_to.was in
    port_from_new c.in_ok-decimal_up_to.field-0 c.new.result c.new.ensures ∙ ap (option_and_then non_zero_port) (sym number)

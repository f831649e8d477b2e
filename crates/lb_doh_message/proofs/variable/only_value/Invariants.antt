use Rattle.std.proofs.Common.{◌≡◌, ◌++◌, map}
use Rattle.form_urlencoded.specs.Form.{parse, decode}
use Rattle.form_urlencoded.specs.Parse.{raw_pairs_left}
use Rattle.lb_doh_message.specs.Variable.{found, values_in}
use Rattle.lb_doh_message.proofs.variable.only_value.Given as goal

abbrev pub invariant-loop-name : goal.invariant-loop-name
invariant-loop-name l =
    found l.only ++ values_in (map (λ (name, value). (decode name, decode value)) (raw_pairs_left l.name-iterator)) ≡ values_in (parse l.query)

use Rattle.std.proofs.Common.{rules, sym, ◌∙◌}
use Rattle.std.proofs.lemmas.Bool.{and_parts, eqb-true}
use Rattle.lb_step.proofs.CheckSpecs.{same_check, same_number}
use Rattle.lb_step.proofs.command.Command.equals.Goals as goal

pub returns-then-equals-clause-equal : goal.returns-then-equals-clause-equal
returns-then-equals-clause-equal c same =
    let fields = sym c.eq-then-equals.ensures ∙ same in
    let check = same_check c.in-ServerAdd-ServerAdd.check c.in-ServerAdd-ServerAdd.by (same_number _ _ (search (rules, and_parts, eqb-true))) (same_number _ _ (search (rules, and_parts, eqb-true))) (search rules) in
    search rules

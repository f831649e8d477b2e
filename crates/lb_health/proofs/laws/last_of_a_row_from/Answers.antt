use Rattle.lb_health.proofs.LastOfARow.{last_of_a_row_from}
use Rattle.lb_health.proofs.laws.last_of_a_row_from.Goals as goal

pub returns : goal.returns
returns c = last_of_a_row_from

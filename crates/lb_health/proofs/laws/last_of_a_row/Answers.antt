use Rattle.lb_health.proofs.LastOfARow.{last_of_a_row}
use Rattle.lb_health.proofs.laws.last_of_a_row.Goals as goal

pub returns : goal.returns
returns c = last_of_a_row

use Rattle.lb_core.proofs.CountRuns.{are_numbers}
use Rattle.lb_core.proofs.laws.counts_are_numbers.Goals as goal

pub returns : goal.returns
returns c = are_numbers

use Rattle.lb_name.proofs.Names.{goes_on}
use Rattle.lb_name.proofs.laws.labels_go_on.Goals as goal

pub returns : goal.returns
returns c = goes_on

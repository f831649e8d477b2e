use Rattle.lb_name.proofs.Names.{one_name}
use Rattle.lb_name.proofs.laws.one_name.Goals as goal

pub returns : goal.returns
returns c = one_name

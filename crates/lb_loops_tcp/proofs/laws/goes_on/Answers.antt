use Rattle.lb_loops_tcp.proofs.Faring.{all_on}
use Rattle.lb_loops_tcp.proofs.laws.goes_on.Goals as goal

pub returns : goal.returns
returns c = all_on

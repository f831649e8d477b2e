use Rattle.lb_loops_tcp.proofs.Steps.{goes_step}
use Rattle.lb_loops_tcp.proofs.laws.one_goes.Goals as goal

pub returns : goal.returns
returns c = goes_step

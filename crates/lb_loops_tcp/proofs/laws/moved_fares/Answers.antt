use Rattle.lb_loops_tcp.proofs.Steps.{fares_ended, fares_moved}
use Rattle.lb_loops_tcp.proofs.laws.moved_fares.Goals as goal

pub returns-clause-moved : goal.returns-clause-moved
returns-clause-moved c = fares_moved

pub returns-clause-ended : goal.returns-clause-ended
returns-clause-ended c = fares_ended

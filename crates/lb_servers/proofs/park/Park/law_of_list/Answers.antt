use Rattle.std.proofs.Common.{subst}
use Rattle.lb_servers.specs.Park.{AreBackends}
use Rattle.lb_servers.proofs.park.Park.law_of_list.Goals as goal

pub returns : goal.returns
returns c = subst AreBackends c.self.view_is c.self.invariant.1

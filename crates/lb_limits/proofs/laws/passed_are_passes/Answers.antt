use Rattle.lb_limits.proofs.ArePasses.{passed_are}
use Rattle.lb_limits.proofs.laws.passed_are_passes.Goals as goal

pub returns : goal.returns
returns c = passed_are

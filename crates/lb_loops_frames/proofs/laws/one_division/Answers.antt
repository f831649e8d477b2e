use Rattle.lb_loops_frames.proofs.Once.{one_division}
use Rattle.lb_loops_frames.proofs.laws.one_division.Goals as goal

pub returns : goal.returns
returns c = one_division

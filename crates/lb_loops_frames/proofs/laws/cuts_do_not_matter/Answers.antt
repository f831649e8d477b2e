use Rattle.lb_loops_frames.proofs.Once.{cuts_do_not_matter}
use Rattle.lb_loops_frames.proofs.laws.cuts_do_not_matter.Goals as goal

pub returns : goal.returns
returns c = cuts_do_not_matter

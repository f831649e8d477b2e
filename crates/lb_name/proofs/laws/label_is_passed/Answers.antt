use Rattle.lb_name.proofs.Passed.{Passed-more}
use Rattle.lb_name.proofs.laws.label_is_passed.Goals as goal

pub returns : goal.returns
returns c = Passed-more

use Rattle.lb_terms.proofs.Sets.{covers-Decides}
use Rattle.lb_terms.proofs.laws.mask_test_decides.Goals as goal

pub returns : goal.returns
returns c = λ prefix addr. covers-Decides addr prefix

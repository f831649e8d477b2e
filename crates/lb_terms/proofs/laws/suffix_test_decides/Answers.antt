use Rattle.lb_terms.proofs.Sets.{is_under-Decides}
use Rattle.lb_terms.proofs.laws.suffix_test_decides.Goals as goal

pub returns : goal.returns
returns c = is_under-Decides

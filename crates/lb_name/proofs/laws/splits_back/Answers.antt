use Rattle.lb_name.proofs.Names.{labels_of-wire}
use Rattle.lb_name.proofs.laws.splits_back.Goals as goal

pub returns : goal.returns
returns c = labels_of-wire

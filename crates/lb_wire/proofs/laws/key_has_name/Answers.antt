use Rattle.lb_wire.proofs.Keys.{name_kept}
use Rattle.lb_wire.proofs.laws.key_has_name.Goals as goal

pub returns : goal.returns
returns c = name_kept c.splits_back.ensures

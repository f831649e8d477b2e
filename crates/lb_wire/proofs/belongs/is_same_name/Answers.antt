use Rattle.lb_wire.proofs.Spellings.{is_same_name}
use Rattle.lb_wire.proofs.belongs.is_same_name.Goals as goal

pub returns-clause-test : goal.returns-clause-test
returns-clause-test c = is_same_name _ _ _ c.same.ensures

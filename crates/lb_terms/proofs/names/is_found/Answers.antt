use Rattle.std.proofs.Common.{rules}
use Rattle.lb_suffix.specs.Index.{IsFiledOver}
use Rattle.lb_terms.proofs.Indexed.{some_least}
use Rattle.lb_terms.proofs.names.is_found.Goals as goal

pub returns : goal.returns
returns c =
    let found = some_least (IsFiledOver c.args.index.now c.args.name.now) c.next.result c.next.ensures in
    search rules

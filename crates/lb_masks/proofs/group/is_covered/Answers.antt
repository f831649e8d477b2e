use Rattle.std.proofs.Common.{rules}
use Rattle.lb_masks.specs.Index.{IsFiledCovering}
use Rattle.lb_masks.proofs.Groups.{some_least}
use Rattle.lb_masks.proofs.group.is_covered.Goals as goal

pub returns : goal.returns
returns c =
    let found = some_least (IsFiledCovering c.args.index.now c.args.addr.now) c.next.result c.next.ensures in
    search rules

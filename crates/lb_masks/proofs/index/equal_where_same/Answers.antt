use Rattle.lb_masks.proofs.Shown.{same_is}
use Rattle.lb_masks.proofs.index.equal_where_same.Goals as goal

pub returns : goal.returns
returns c = λ same. same_is c.args.a.now c.args.b.now c.stands_in_order.ensures c.stands_in_order-2.ensures same

use Rattle.lb_masks.proofs.Spans.{kind_there}
use Rattle.lb_masks.proofs.kinds.has_kind.Goals as goal

pub returns : goal.returns
returns c =
    kind_there c.args.ranks.now c.walk_from-pairs.result c.args.kind c.next_below.result c.is_some.result c.stand_in_order.ensures c.walk_from-pairs.ensures c.next_below.ensures.rank c.is_some.ensures

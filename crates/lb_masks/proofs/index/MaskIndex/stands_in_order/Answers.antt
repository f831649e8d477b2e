use Rattle.std.proofs.Common.{subst}
use Rattle.lb_masks.specs.Index.{ArePairsInOrder}
use Rattle.lb_masks.proofs.Shown.{shown_order}
use Rattle.lb_masks.proofs.index.MaskIndex.stands_in_order.Goals as goal

pub returns : goal.returns
returns c = subst ArePairsInOrder c.self.view_is (shown_order c.self.inside.ranks c.self.invariant.0 c.stand_in_order.ensures)

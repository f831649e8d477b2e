use Rattle.std.proofs.Common.{subst}
use Rattle.lb_suffix.specs.Index.{ArePairsInOrder}
use Rattle.lb_suffix.proofs.Shown.{shown_order}
use Rattle.lb_suffix.proofs.index.SuffixIndex.stands_in_order.Goals as goal

pub returns : goal.returns
returns c = subst ArePairsInOrder c.self.view_is (shown_order c.splits_back.ensures c.self.inside.ranks c.self.invariant c.stand_in_order.ensures)

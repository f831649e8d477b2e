use Rattle.std.proofs.Common.{Option, ℕ, sym, subst}
use Rattle.lb_index_ranks.specs.Least.{IsLeastFrom}
use Rattle.lb_suffix.specs.Index.{IsFiledOver}
use Rattle.lb_masks.specs.Index.{IsFiledCovering}
use Rattle.lb_chain.specs.Filing.{IsFiledFor}
use Rattle.lb_chain.proofs.Offered.{least_both}
use Rattle.lb_chain.proofs.offers.find_rank.Goals as goal

pub returns : goal.returns
returns c =
    subst (λ (found : Option ℕ). IsLeastFrom (IsFiledFor c.args.names.now c.args.masks.now c.args.view.now c.args.addr.now) c.args.from found) (sym c.lesser.ensures)
    (least_both (IsFiledOver c.args.names.now c.args.view.now.name) (IsFiledCovering c.args.masks.now c.args.addr.now) c.args.from c.next.result c.next-2.result c.next.ensures c.next-2.ensures)

use Rattle.std.proofs.Common.{List, map, subst}
use Rattle.lb_index_ranks.specs.Least.{IsLeastFrom}
use Rattle.lb_masks.specs.Index.{Pair, IsFiledCovering, shown}
use Rattle.lb_masks.specs.Kinds.{IsOfKinds}
use Rattle.lb_masks.specs.declared.kinds.MaskKind.{MaskKind}
use Rattle.lb_masks.proofs.Least.{least_same}
use Rattle.lb_masks.proofs.Looks.{coverings_from, coverings_to}
use Rattle.lb_masks.proofs.index.MaskIndex.next.Goals as goal

pub returns : goal.returns
returns c =
    let addr = c.args.addr.now in
    let items = c.self.inside.ranks in
    let kinds = c.self.inside.kinds.items in
    let least = subst (λ (ks : List MaskKind). IsLeastFrom (IsOfKinds items addr ks) c.args.from c.next_of_kinds.result) c.as_slice.ensures.value c.next_of_kinds.ensures in
    subst (λ (ps : List Pair). IsLeastFrom (IsFiledCovering ps addr) c.args.from c.next_of_kinds.result) c.self.view_is
    (least_same (IsOfKinds items addr kinds) (IsFiledCovering (map shown items) addr) c.args.from c.next_of_kinds.result
    (λ r of. coverings_to items addr kinds r of) (λ r over. coverings_from items addr kinds r c.self.invariant.0 c.self.invariant.2 over) least)

use Rattle.std.proofs.Common.{[], List, subst, sym}
use Rattle.lb_index_ranks.specs.declared.filed.Filed.{Filed}
use Rattle.lb_masks.specs.Kinds.{numbers, AreInUse, AreMarked}
use Rattle.lb_masks.specs.declared.kinds.MaskKind.{MaskKind}
use Rattle.lb_masks.proofs.InUse.{used_none}
use Rattle.lb_masks.proofs.Marked.{marked_none}
use Rattle.lb_masks.proofs.Pairs.{Keyed}
use Rattle.lb_masks.proofs.index.MaskIndex.new.Goals as goal

pub invariant_of-result : goal.invariant_of-result
invariant_of-result c =
    (subst (λ (xs : List Filed). Keyed xs) (sym c.new.ensures) tt, subst (λ (ks : List MaskKind). AreInUse (numbers ks) c.new.result) (sym c.new-2.ensures.items) (subst (λ (xs : List Filed). AreInUse [] xs) (sym c.new.ensures) used_none), subst (λ (ks : List MaskKind). AreMarked ks c.new.result) (sym c.new-2.ensures.items) (subst (λ (xs : List Filed). AreMarked [] xs) (sym c.new.ensures) marked_none))

use Rattle.lb_masks.proofs.Groups.{kept_is_index}
use Rattle.lb_masks.proofs.group.Group.index.Goals as goal

pub invariant_of-self : goal.invariant_of-self
invariant_of-self c =
    kept_is_index c.as_slice.result.now _ c.in_ok-index.index c.worth_its_looks.result c.as_slice.ensures.value (c.in_ok-index.ensures {u = tt}) c.worth_its_looks.ensures

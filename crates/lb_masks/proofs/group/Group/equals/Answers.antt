use Rattle.std.proofs.Common.{rules, ◌≡◌}
use Rattle.std.specs.Bool.{Decides}
use Rattle.std.proofs.lemmas.Slice.Eq.{slice_eq-Decides}
use Rattle.lb_masks.specs.declared.mask.Mask.{Mask}
use Rattle.lb_masks.proofs.group.Group.equals.Goals as goal

-- what `==` says of the two lists
decides : (c : goal.After-eq) → Decides c.eq.result (c.as_slice.result.now ≡ c.as_slice-2.result.now)
decides c = slice_eq-Decides (λ (a : Mask) (b : Mask). search rules) _ _ _ c.eq.ensures

pub returns-clause-equal : goal.returns-clause-equal
returns-clause-equal c same = let lists = (decides c).0 same in cc

pub returns-clause-found : goal.returns-clause-found
returns-clause-found c same = (decides c).1 (cc)

use Rattle.std.proofs.Common.{◌↔◌, ℕ, IfSome, List, Option, subst}
use Rattle.std.specs.List.{Any}
use Rattle.lb_masks.specs.Mask.{Prefix, Covers}
use Rattle.lb_masks.specs.Index.{Pair, IsFiledCovering}
use Rattle.lb_masks.specs.Group.{IsIndexOf}
use Rattle.lb_masks.proofs.Groups.{index_covers}
use Rattle.lb_masks.proofs.group.Group.covers.Goals as goal

pub returns-in-Some : goal.returns-in-Some
returns-in-Some c =
    let addr = c.args.addr.now in
    let pairs = c.in-Some.index in
    let index = subst (λ (o : Option (List Pair)). IfSome o (IsIndexOf c.self.inside.masks.items)) c.in-Some.is c.self.invariant in
    let same =
    subst (λ (masks : List Prefix). ((rank : ℕ) × IsFiledCovering pairs addr rank) ↔ Any (λ mask. Covers mask addr) masks) c.self.view_is
    (index_covers c.self.inside.masks.items pairs addr index) in
    (λ is. same.0 (c.is_covered.ensures.0 is), λ any. c.is_covered.ensures.1 (same.1 any))

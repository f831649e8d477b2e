use Rattle.std.proofs.Common.{List, subst, sym}
use Rattle.lb_limits.specs.declared.bucket.Bucket.{Bucket}
use Rattle.lb_limits.specs.Buckets.{IsIdleAt, Leaves}
use Rattle.lb_limits.proofs.Leaves.{left_removed}
use Rattle.lb_limits.proofs.buckets.give_up_one.Goals as goal

pub returns-in-Some : goal.returns-in-Some
returns-in-Some c =
    subst (λ (bs : List Bucket). Leaves c.args.reserved.now c.args.moment c.args.buckets.now.items bs) (sym c.remove.ensures.items)
    (left_removed c.args.reserved.now c.args.moment c.in-Some.place c.args.buckets.now.items c.remove.result c.requires
    (subst (λ (bs : List Bucket). IsIdleAt c.args.reserved.now c.args.moment c.in-Some.place bs) c.as_slice.ensures.value c.in-Some.ensures))

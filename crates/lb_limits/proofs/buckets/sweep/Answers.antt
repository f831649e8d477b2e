use Rattle.std.proofs.Common.{◌≡◌, ◌≤◌, ◌+◌, List, length, subst, sym, rules}
use Rattle.std.specs.List.{filter}
use Rattle.std.proofs.lemmas.Fn.{filter_same}
use Rattle.lb_limits.specs.declared.bucket.Bucket.{Bucket}
use Rattle.lb_limits.specs.Window.{max_live}
use Rattle.lb_limits.specs.Buckets.{Leaves, stays}
use Rattle.lb_limits.proofs.Leaves.{left_swept, swept_few}
use Rattle.lb_limits.proofs.buckets.sweep.Goals as goal

pub returns-clause-left : goal.returns-clause-left
returns-clause-left c =
    let is : c.retain.new.self.items ≡ filter (stays c.args.reserved.now c.args.moment) c.args.buckets.now.items = filter_same _ (stays c.args.reserved.now c.args.moment) _ (λ x b f k. search rules) _ _ c.retain.ensures.filtered in
    subst (λ (bs : List Bucket). Leaves c.args.reserved.now c.args.moment c.args.buckets.now.items bs) (sym is) (left_swept c.args.reserved.now c.args.moment c.args.buckets.now.items c.requires.held)

pub returns-clause-few : goal.returns-clause-few
returns-clause-few c =
    let is : c.retain.new.self.items ≡ filter (stays c.args.reserved.now c.args.moment) c.args.buckets.now.items = filter_same _ (stays c.args.reserved.now c.args.moment) _ (λ x b f k. search rules) _ _ c.retain.ensures.filtered in
    subst (λ (bs : List Bucket). length bs ≤ max_live + length c.args.reserved.now) (sym is) (swept_few c.args.reserved.now c.args.moment c.args.buckets.now.items c.requires.held c.requires.crowd)

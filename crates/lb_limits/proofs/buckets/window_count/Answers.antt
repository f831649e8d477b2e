use Rattle.std.proofs.Common.{length, ap, sym, ◌∙◌}
use Rattle.lb_limits.specs.declared.bucket.Bucket.{Bucket}
use Rattle.lb_limits.specs.Moments.{recent_of}
use Rattle.lb_limits.proofs.Places.{window_there, window_missing}
use Rattle.lb_limits.proofs.buckets.window_count.Goals as goal

pub returns-then-is_at : goal.returns-then-is_at
returns-then-is_at c =
    c.recent.ensures.count
    ∙ ap (λ (b : Bucket). length (recent_of c.args.now b.moments.items)) c.index-buckets-place.is
    ∙ sym (window_there c.args.key.now c.args.now c.args.buckets.now c.place_of-place.result c.index-buckets-place.result c.requires.order c.place_of-place.ensures (c.is_at.ensures.within c.if-is_at.true) (sym c.is_at.ensures.found ∙ c.if-is_at.true))

pub returns-else-is_at : goal.returns-else-is_at
returns-else-is_at c =
    sym (window_missing c.args.key.now c.args.now c.args.buckets.now c.place_of-place.result c.requires.order c.place_of-place.ensures (sym c.is_at.ensures.found ∙ c.if-is_at.false))

use Rattle.std.proofs.Common.{arith, length, ap}
use Rattle.std.proofs.lemmas.List.{length-map}
use Rattle.std.proofs.lemmas.List.Folds.{length-flat_map-take}
use Rattle.lb_limits.specs.declared.bucket.Bucket.{Bucket}
use Rattle.lb_limits.specs.Moments.{recent_of}
use Rattle.lb_limits.specs.Buckets.{bucket_passes, pass_of}
use Rattle.lb_limits.proofs.buckets.count.Goals as goal

pub overflow_add-count : goal.overflow_add-count
overflow_add-count c =
    let b : Bucket = c.bucket-item.result in
    omega (
      arith,
      c.requires.fits,
      c.loop-bucket.invariant,
      c.recent-count.ensures.count,
      ap (λ (b : Bucket). length (bucket_passes c.args.moment b)) c.bucket-item.is,
      length-map (recent_of c.args.moment b.moments.items) (pass_of b.source),
      length-flat_map-take (bucket_passes c.args.moment) c.args.buckets.now c.loop-bucket.bucket-index b c.loop-bucket-test.true,
    )

use Rattle.std.proofs.Common.{◌<◌, List, length, subst, sym}
use Rattle.lb_limits.specs.declared.bucket.Bucket.{Bucket}
use Rattle.lb_limits.specs.Buckets.{held_at}
use Rattle.lb_limits.proofs.Limiters.{passes_few}
use Rattle.lb_limits.proofs.limiter.Limiter.len.Goals as goal

pub count-requires-clause-fits : goal.count-requires-clause-fits
count-requires-clause-fits c =
    let i = c.self.inside in
    subst (λ (bs : List Bucket). length (held_at i.moment bs) < 9223372036854775808) (sym c.as_slice.ensures.value)
    (passes_few i.qps i.v4 i.v6 i.moment i.buckets.items i.ticks i.reserved.items c.self.invariant)

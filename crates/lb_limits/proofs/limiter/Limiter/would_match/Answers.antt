use Rattle.std.proofs.Common.{ℕ, List, refl, sym, ap, ◌∙◌}
use Rattle.lb_limits.specs.declared.bucket.Bucket.{Bucket}
use Rattle.lb_limits.specs.Window.{Limits}
use Rattle.lb_limits.specs.Buckets.{held_at, window_count}
use Rattle.lb_limits.proofs.Limiters.{view_of}
use Rattle.lb_limits.proofs.Matches.{tested_by}
use Rattle.lb_limits.proofs.limiter.Limiter.would_match.Goals as goal

pub returns : goal.returns
returns c =
    let i = c.self.inside in
    let count : ℕ = c.window_count-count.result in
    let view : Limits = view_of i.qps i.v4 i.v6 i.moment (held_at i.moment i.buckets.items) i.reserved.items in
    let counted = c.window_count-count.ensures ∙ ap (λ (bs : List Bucket). window_count c.masked-key.result c.args.now bs) c.as_slice.ensures.value in
    c.is_over.ensures
    ∙ sym (tested_by c.args.self.now view i.buckets.items i.ticks c.args.addr.now c.masked-key.result c.args.now count c.self.view_is refl c.requires c.self.invariant.passes c.self.invariant.ends c.masked-key.ensures.value counted)

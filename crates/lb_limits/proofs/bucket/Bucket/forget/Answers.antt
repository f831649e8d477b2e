use Rattle.std.proofs.Common.{ℕ, ap, ◌∙◌}
use Rattle.circular_buffer.specs.Buffer.{Buffer, keep_last}
use Rattle.lb_limits.proofs.Recent.{forgets}
use Rattle.lb_limits.proofs.bucket.Bucket.forget.Goals as goal

pub returns-clause-moments : goal.returns-clause-moments
returns-clause-moments c =
    ap (λ (b : Buffer ℕ). b.items) c.truncate_front.ensures ∙ ap (λ (n : ℕ). keep_last n c.args.self.now.moments.items) c.recent-recent.ensures.count ∙ forgets c.args.now c.args.self.now.moments.items c.requires

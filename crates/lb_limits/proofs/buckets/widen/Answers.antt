use Rattle.std.proofs.Common.{ap, ◌∙◌}
use Rattle.lb_limits.specs.declared.bucket.Bucket.{Bucket}
use Rattle.lb_limits.specs.Moments.{recent_of}
use Rattle.lb_limits.proofs.Keeps.{widened}
use Rattle.lb_limits.proofs.buckets.widen.Goals as goal

pub returns-clause-keeps : goal.returns-clause-keeps
returns-clause-keeps c =
    widened c.args.moment c.args.place c.args.buckets.now.items c.make_room.new.self c.index_mut.result.now c.requires.held c.requires.within
    (c.make_room.ensures.source ∙ ap (λ (b : Bucket). b.source) c.index_mut.ensures.value) c.make_room.ensures.bucket
    (λ later le. c.make_room.ensures.same later le ∙ ap (λ (b : Bucket). recent_of later b.moments.items) c.index_mut.ensures.value)

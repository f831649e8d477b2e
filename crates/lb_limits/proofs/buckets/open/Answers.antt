use Rattle.std.proofs.Common.{List, ◌<◌, subst, sym}
use Rattle.std.specs.List.{All}
use Rattle.lb_limits.specs.declared.bucket.Bucket.{Bucket}
use Rattle.lb_limits.specs.Buckets.{IsRated, Keeps, free_of}
use Rattle.lb_limits.proofs.Keeps.{opened, opened_room, empty_bucket}
use Rattle.lb_limits.proofs.Rated.{opened_rated}
use Rattle.lb_limits.proofs.buckets.open.Goals as goal

pub returns-clause-keeps : goal.returns-clause-keeps
returns-clause-keeps c =
    subst (λ (bs : List Bucket). Keeps c.args.moment c.args.buckets.now.items bs) (sym c.in_ok-insert.ensures.items)
    (opened c.args.moment c.args.key c.args.place c.args.buckets.now.items c.in_ok-bucket.bucket c.requires.held c.requires.place c.in_ok-bucket.ensures.source c.in_ok-bucket.ensures.moments c.requires.new
    (empty_bucket c.args.moment c.in_ok-bucket.bucket c.in_ok-bucket.ensures.moments))

pub returns-clause-rated : goal.returns-clause-rated
returns-clause-rated c =
    subst (λ (bs : List Bucket). All (IsRated c.args.qps c.args.moment) bs) (sym c.in_ok-insert.ensures.items)
    (opened_rated c.args.qps c.args.moment c.args.place c.args.buckets.now.items c.in_ok-bucket.bucket c.in_ok-bucket.ensures.moments c.in_ok-bucket.ensures.few c.requires.rated)

pub returns-clause-room : goal.returns-clause-room
returns-clause-room c =
    subst (λ (bs : List Bucket). 0 < free_of c.args.key bs) (sym c.in_ok-insert.ensures.items)
    (opened_room c.args.key c.args.place c.args.buckets.now.items c.in_ok-bucket.bucket c.in_ok-bucket.ensures.source c.in_ok-bucket.ensures.moments c.in_ok-bucket.ensures.room)

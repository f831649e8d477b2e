use Rattle.lb_limits.proofs.Keeps.{forgot, forgot_same, forgot_more}
use Rattle.std.proofs.Common.{arith}
use Rattle.lb_limits.proofs.Rated.{kept_rated}
use Rattle.lb_limits.proofs.bucket.Bucket.trim.Goals as goal

pub returns-then-is_full-clause-bucket : goal.returns-then-is_full-clause-bucket
returns-then-is_full-clause-bucket c = forgot c.args.now c.args.self.now c.forget.new.self c.requires.bucket c.forget.ensures.moments c.forget.ensures.places

pub returns-then-is_full-clause-same : goal.returns-then-is_full-clause-same
returns-then-is_full-clause-same c = λ later le. forgot_same c.args.now later c.args.self.now c.forget.new.self le c.forget.ensures.moments

pub returns-then-is_full-clause-more : goal.returns-then-is_full-clause-more
returns-then-is_full-clause-more c = forgot_more c.args.now c.args.self.now c.forget.new.self c.forget.ensures.moments c.forget.ensures.places

pub returns-then-is_full-clause-rated : goal.returns-then-is_full-clause-rated
returns-then-is_full-clause-rated c =
    kept_rated c.args.qps c.args.now c.args.self.now c.forget.new.self c.requires.rated (forgot_same c.args.now c.args.now c.args.self.now c.forget.new.self (omega arith) c.forget.ensures.moments)
    (omega (arith, c.requires.rated.places, c.forget.ensures.places))

use Rattle.lb_cache.specs.Question.{covers_suffix}
use Rattle.lb_cache.specs.Store.{within}
use Rattle.lb_cache.proofs.Whole.{left_too}
use Rattle.lb_cache.proofs.cache.take_suffix.Goals as goal

pub returns-clause-left : goal.returns-clause-left
returns-clause-left c =
    left_too (within c.of_suffix-span.result.low c.of_suffix-span.result.high) (covers_suffix c.args.name.now) c.args.store.now c.take_within.new.store (λ r. c.of_suffix-span.ensures r.key.octets) c.take_within.ensures.left

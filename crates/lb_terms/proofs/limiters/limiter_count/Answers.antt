use Rattle.std.proofs.Common.{arith}
use Rattle.std.proofs.lemmas.Bool.Decides.{nat_tests}
use Rattle.lb_terms.specs.Selector.{selector_of}
use Rattle.lb_terms.proofs.Counts.{limiters_within}
use Rattle.lb_terms.proofs.limiters.limiter_count.Goals as goal

pub count-requires : goal.count-requires
count-requires c = grind (arith, nat_tests, limiters_within (selector_of c.as_term.result.now), c.as_term.ensures.within.nodes)

pub returns-clause-few : goal.returns-clause-few
returns-clause-few c = grind (arith, nat_tests, limiters_within (selector_of c.as_term.result.now), c.as_term.ensures.within.nodes)

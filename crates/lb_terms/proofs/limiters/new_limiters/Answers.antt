use Rattle.std.proofs.Common.{rules}
use Rattle.lb_terms.proofs.Counts.{length-new_limiters, all_new}
use Rattle.lb_terms.proofs.limiters.new_limiters.Goals as goal

pub add_limiters-requires : goal.add_limiters-requires
add_limiters-requires c = rw c.as_term.ensures.term c.as_term.ensures.within.rates

pub returns-clause-count : goal.returns-clause-count
returns-clause-count c = search (rules, length-new_limiters)

pub returns-clause-moments : goal.returns-clause-moments
returns-clause-moments c = search (rules, all_new)

use Rattle.std.proofs.Common.{◌≡◌, ◌++◌, drop, true}
use Rattle.lb_terms.specs.Limiters.{limiters_each, new_limiters}
use Rattle.lb_terms.specs.Selector.{selector_of, selectors_of}
use Rattle.lb_terms.specs.Check.{have_rates}
use Rattle.lb_terms.proofs.limiters.+add_limiters.Given as goal

abbrev pub invariant-loop-term : goal.invariant-loop-term
invariant-loop-term l =
    (have_rates (selectors_of (drop l.term-index l.term-items)) ≡ true)
    × (l.limiters.items ++ limiters_each (selectors_of (drop l.term-index l.term-items)) ≡ l.fn.limiters.items ++ new_limiters (selector_of l.term))

use Rattle.std.proofs.Common.{◌≡◌, ◌+◌, ◌≤◌, drop}
use Rattle.lb_terms.specs.Selector.{selectors_of}
use Rattle.lb_terms.specs.Truth.{limiters_in}
use Rattle.lb_terms.proofs.limiters.+count.Given as goal

abbrev pub invariant-count_all-loop-term : goal.invariant-count_all-loop-term
invariant-count_all-loop-term l = (limiters_in (selectors_of l.terms) ≤ 64) × (l.sum + limiters_in (selectors_of (drop l.term-index l.terms)) ≡ limiters_in (selectors_of l.terms))

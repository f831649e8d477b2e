use Rattle.std.proofs.Common.{◌≡◌, drop}
use Rattle.lb_terms.specs.Selector.{selector_of, selectors_of}
use Rattle.lb_terms.specs.Check.{has_rates, have_rates}
use Rattle.lb_terms.proofs.check.+has_rates.Given as goal

abbrev pub invariant-loop-term : goal.invariant-loop-term
invariant-loop-term l = have_rates (selectors_of (drop l.term-index l.term-items)) ≡ has_rates (selector_of l.term)

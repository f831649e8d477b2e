use Rattle.std.proofs.Common.{◌≡◌, drop}
use Rattle.lb_terms.specs.Selector.{selector_of, selectors_of}
use Rattle.lb_terms.specs.Check.{has_small_sets, have_small_sets}
use Rattle.lb_terms.proofs.check.+has_small_sets.Given as goal

abbrev pub invariant-loop-term : goal.invariant-loop-term
invariant-loop-term l = have_small_sets (selectors_of (drop l.term-index l.term-items)) ≡ has_small_sets (selector_of l.term)

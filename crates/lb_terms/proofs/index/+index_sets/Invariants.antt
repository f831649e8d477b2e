use Rattle.std.proofs.Common.{◌≡◌, map}
use Rattle.lb_terms.specs.Selector.{selector_of}
use Rattle.lb_terms.proofs.index.+index_sets.Given as goal

abbrev pub invariant-index_all-loop-at : goal.invariant-index_all-loop-at
invariant-index_all-loop-at l = (map selector_of l.terms.items ≡ map selector_of l.fn.terms.items) × goal.unvisited-index_all-loop-at l

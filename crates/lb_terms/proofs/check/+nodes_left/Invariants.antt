use Rattle.std.proofs.Common.{◌≡◌, ◌+◌, drop}
use Rattle.lb_terms.specs.Selector.{selector_of, selectors_of}
use Rattle.lb_terms.specs.Check.{nodes_in, nodes_of}
use Rattle.lb_terms.proofs.check.+nodes_left.Given as goal

abbrev pub invariant-loop-term : goal.invariant-loop-term
invariant-loop-term l = l.left + nodes_of (selector_of l.term) ≡ l.most + nodes_in (selectors_of (drop l.term-index l.term-items))

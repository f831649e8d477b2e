use Rattle.std.proofs.Common.{◌≡◌, ◌+◌, ◌<◌, drop, nat_le}
use Rattle.lb_terms.specs.Selector.{selector_of, selectors_of}
use Rattle.lb_terms.specs.Check.{depth_in, depth_of}
use Rattle.lb_terms.proofs.check.+is_within.Given as goal

abbrev pub invariant-loop-term : goal.invariant-loop-term
invariant-loop-term l = (0 < l.depth) × (nat_le (1 + depth_in (selectors_of (drop l.term-index l.term-items))) l.depth ≡ nat_le (depth_of (selector_of l.term)) l.depth)

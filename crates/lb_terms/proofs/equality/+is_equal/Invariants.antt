use Rattle.std.proofs.Common.{◌≡◌, drop, length}
use Rattle.lb_terms.specs.Selector.{selectors_of}
use Rattle.lb_terms.proofs.equality.+is_equal.Given as goal

abbrev pub invariant-are_equal-loop-at : goal.invariant-are_equal-loop-at
invariant-are_equal-loop-at l =
    let rest = selectors_of (drop l.at l.terms) in
    let others = selectors_of (drop l.at l.others) in
    record {
      lengths : length l.terms ≡ length l.others;
      equal : rest ≡ others → selectors_of l.terms ≡ selectors_of l.others;
      found : selectors_of l.terms ≡ selectors_of l.others → rest ≡ others;
    }

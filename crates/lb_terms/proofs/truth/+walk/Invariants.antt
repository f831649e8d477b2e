use Rattle.std.proofs.Common.{◌≡◌, ◌+◌, ◌≤◌, ◌++◌, drop, length}
use Rattle.lb_terms.specs.Selector.{selectors_of}
use Rattle.lb_terms.specs.Truth.{asked_on, limiters_in, passes_all, passes_any, truth_all, truth_any}
use Rattle.lb_terms.proofs.truth.+walk.Given as goal

abbrev pub invariant-test_all-loop-at : goal.invariant-test_all-loop-at
invariant-test_all-loop-at l =
    let rest = selectors_of (drop l.at l.terms) in
    let every = selectors_of l.terms in
    let asked = asked_on l.subject in
    record {
      room : length l.passes ≤ l.next;
      place : l.next + limiters_in rest ≡ l.fn.next + limiters_in every;
      truth : truth_all rest asked l.next ≡ truth_all every asked l.fn.next;
      passes : l.passes ++ passes_all rest asked l.next ≡ l.fn.passes ++ passes_all every asked l.fn.next;
    }

abbrev pub invariant-test_any-loop-at : goal.invariant-test_any-loop-at
invariant-test_any-loop-at l =
    let rest = selectors_of (drop l.at l.terms) in
    let every = selectors_of l.terms in
    let asked = asked_on l.subject in
    record {
      room : length l.passes ≤ l.next;
      place : l.next + limiters_in rest ≡ l.fn.next + limiters_in every;
      truth : truth_any rest asked l.next ≡ truth_any every asked l.fn.next;
      passes : l.passes ++ passes_any rest asked l.next ≡ l.fn.passes ++ passes_any every asked l.fn.next;
    }

use Rattle.std.proofs.Common.{◌≡◌, ◌&&◌, drop}
use Rattle.lb_terms.specs.Selector.{selector_of, selectors_of}
use Rattle.lb_terms.specs.Check.{has_member, has_members, have_members}
use Rattle.lb_terms.proofs.check.+has_members.Given as goal

abbrev pub invariant-loop-term : goal.invariant-loop-term
invariant-loop-term l = (l.terms.items ≡ l.term-items) × (has_member (selectors_of l.term-items) && have_members (selectors_of (drop l.term-index l.term-items)) ≡ has_members (selector_of l.term))

use Rattle.std.proofs.Common.{◌≡◌, map, take}
use Rattle.lb_terms.specs.Selector.{selector_of}
use Rattle.lb_terms.proofs.copy.+copied.Given as goal

abbrev pub invariant-copied_all-loop-term : goal.invariant-copied_all-loop-term
invariant-copied_all-loop-term l = map selector_of l.copies.items ≡ map selector_of (take l.term-index l.terms)

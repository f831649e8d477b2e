use Rattle.std.proofs.Common.{List, ℕ, subst}
use Rattle.lb_terms.specs.Names.{IsIndexOf}
use Rattle.lb_terms.proofs.names.Names.index.Goals as goal

pub invariant_of-self : goal.invariant_of-self
invariant_of-self c = subst (λ (names : List (List (List ℕ))). IsIndexOf names c.in_ok-index_of.field-0) c.as_slice.ensures.value c.in_ok-index_of.ensures

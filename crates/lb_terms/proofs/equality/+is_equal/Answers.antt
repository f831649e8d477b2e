use Rattle.std.proofs.Common.{rules}
use Rattle.lb_terms.proofs.Selectors.{same_length}
use Rattle.lb_terms.proofs.equality.+is_equal.Goals as goal

pub are_equal-returns-then-terms-others-clause-found : goal.are_equal-returns-then-terms-others-clause-found
are_equal-returns-then-terms-others-clause-found t c same = let lengths = same_length c.args.terms.now c.args.others.now same in search rules

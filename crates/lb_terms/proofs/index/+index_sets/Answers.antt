use Rattle.std.proofs.Common.{◌∙◌, rules}
use Rattle.lb_terms.proofs.Selectors.{same_set}
use Rattle.lb_terms.proofs.index.+index_sets.Goals as goal

pub index_all-loop-at-preserved : goal.index_all-loop-at-preserved
index_all-loop-at-preserved t c = (
  same_set c.loop-at.terms.items c.loop-at.at c.index_mut.result.now c.index_sets.new.term c.index_mut.ensures.value c.index_sets.ensures ∙ c.loop-at.invariant.0,
  search rules,
)

pub index_all-returns-in_err-index_sets : goal.index_all-returns-in_err-index_sets
index_all-returns-in_err-index_sets t c = same_set c.loop-at.terms.items c.loop-at.at c.index_mut.result.now c.index_sets.new.term c.index_mut.ensures.value c.index_sets.ensures ∙ c.loop-at.invariant.0

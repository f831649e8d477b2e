use Rattle.lb_chain.proofs.Walks.{first_to_end, no_rule_allows, none_to_end}
use Rattle.lb_chain.proofs.laws.first_to_end_decides.Goals as goal

pub returns-clause-decides : goal.returns-clause-decides
returns-clause-decides c = first_to_end

pub returns-clause-allows : goal.returns-clause-allows
returns-clause-allows c = none_to_end

pub returns-clause-none : goal.returns-clause-none
returns-clause-none c = no_rule_allows

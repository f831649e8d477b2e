use Rattle.std.proofs.Common.{subst}
use Rattle.lb_chain.specs.Chain.{AreRules}
use Rattle.lb_chain.proofs.Kept.{are_rules}
use Rattle.lb_chain.proofs.chain.Chain.law_of_list.Goals as goal

pub returns : goal.returns
returns c = subst AreRules c.self.view_is (are_rules c.self.inside.last_rule c.self.inside.moment c.self.inside.limiters c.self.inside.rules.items c.self.invariant.0)

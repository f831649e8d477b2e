use Rattle.std.proofs.Common.{subst}
use Rattle.lb_step.specs.Laws.{AreLists}
use Rattle.lb_step.proofs.Lists.{are_lists}
use Rattle.lb_step.proofs.balancer.Balancer.law_of_lists.Goals as goal

pub returns : goal.returns
returns c =
    let i = c.self.inside in
    let marked = c.law_of_health.ensures in
    subst AreLists c.self.view_is
    (are_lists c.seen_are_rules.ensures i.moment i.chain i.upstream c.law_of_list.ensures (record { numbers = marked.numbers; below = marked.below; checks = marked.checks }) c.law_of_lists.ensures.backends c.law_of_lists.ensures.numbered c.law_of_lists.ensures.outstanding c.law_of_lists.ensures.kept)

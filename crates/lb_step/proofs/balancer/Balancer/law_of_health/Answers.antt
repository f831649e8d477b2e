use Rattle.std.proofs.Common.{subst}
use Rattle.lb_step.specs.Laws.{AreMarked}
use Rattle.lb_step.proofs.balancer.Balancer.law_of_health.Goals as goal

pub returns : goal.returns
returns c =
    let marked = c.law_of_health.ensures in
    subst AreMarked c.self.view_is (record { numbers = marked.numbers; below = marked.below; checks = marked.checks })

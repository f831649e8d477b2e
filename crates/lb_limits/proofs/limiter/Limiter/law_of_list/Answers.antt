use Rattle.std.proofs.Common.{subst}
use Rattle.lb_limits.specs.Window.{ArePasses, Limits}
use Rattle.lb_limits.proofs.Listed.{are_passes}
use Rattle.lb_limits.proofs.limiter.Limiter.law_of_list.Goals as goal

pub returns : goal.returns
returns c =
    let i = c.self.inside in
    subst ArePasses c.self.view_is (are_passes i.qps i.v4 i.v6 i.moment i.buckets.items i.reserved.items c.self.invariant.passes c.self.invariant.rated)

use Rattle.std.proofs.Common.{subst, sym, ap, ◌∙◌}
use Rattle.lb_servers.specs.Park.{AreBackends}
use Rattle.lb_step.specs.Upstream.{Upstreams, backends_of}
use Rattle.lb_step.proofs.Tied.{counted_tied}
use Rattle.lb_step.proofs.upstream.Upstream.law_of_lists.Goals as goal

pub returns-clause-backends : goal.returns-clause-backends
returns-clause-backends c =
    let i = c.self.inside in
    subst AreBackends (sym (counted_tied i.timeout i.caches i.checks.items i.park i.table c.self.invariant.0.tied) ∙ ap (λ (u : Upstreams). backends_of u) c.self.view_is) c.law_of_list.ensures

use Rattle.std.proofs.Common.{◌<◌, subst}
use Rattle.std.specs.List.{AllByRecursion}
use Rattle.lb_step.specs.Upstream.{Upstreams, server_of}
use Rattle.lb_step.proofs.Each.{each_map}
use Rattle.lb_step.proofs.upstream.Upstream.law_of_health.Goals as goal

pub returns-clause-below : goal.returns-clause-below
returns-clause-below c =
    subst (λ (ups : Upstreams). AllByRecursion (λ s. s.id.0 < ups.next_server) ups.servers) c.self.view_is (each_map (λ s. s.id.0 < c.self.inside.park.next) server_of c.self.inside.park.servers c.self.invariant.0.tied.given)

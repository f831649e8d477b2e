use Rattle.std.proofs.Common.{List, map, ap, ◌∙◌}
use Rattle.std.proofs.lemmas.Result.{IfOk-weaker}
use Rattle.lb_step.specs.Upstream.{server_of}
use Rattle.lb_step.specs.declared.check.Check.{Check}
use Rattle.lb_servers.specs.declared.server.Loaded.{Loaded}
use Rattle.lb_program.specs.Servers.{placed}
use Rattle.lb_program.proofs.ServerLists.{made_of_each}
use Rattle.lb_program.proofs.servers.places.Goals as goal

pub returns : goal.returns
returns c =
    let plain = c.args.balancer.now in
    let checked = ap (λ (checks : List Check). map (λ (l : Loaded). placed checks (server_of l)) c.servers.result.now) c.checks.ensures in
    IfOk-weaker c.all_placed.result _ _ (λ places is. is ∙ checked ∙ made_of_each (placed plain.checks) c.servers.result.now plain.servers c.servers.ensures) c.all_placed.ensures

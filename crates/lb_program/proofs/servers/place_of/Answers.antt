use Rattle.std.proofs.Common.{Some, None}
use Rattle.lb_program.specs.Servers.{placed}
use Rattle.lb_program.proofs.ServerLists.{made_of_found}
use Rattle.lb_program.proofs.servers.place_of.Goals as goal

pub returns-in-Some : goal.returns-in-Some
returns-in-Some c =
    let plain = c.args.balancer.now in
    rw (c.placed.ensures, c.checks.ensures) (made_of_found (placed plain.checks) c.args.id c.servers.result.now plain.servers (Some c.in-Some.loaded.now) c.servers.ensures c.in-Some.ensures)

pub returns-in-None : goal.returns-in-None
returns-in-None c =
    let plain = c.args.balancer.now in
    made_of_found (placed plain.checks) c.args.id c.servers.result.now plain.servers None c.servers.ensures c.in-None.ensures

use Rattle.std.proofs.Common.{sym, ◌∙◌, ap, List}
use Rattle.lb_servers.specs.Pick.{picked}
use Rattle.lb_servers.specs.declared.server.Loaded.{Loaded}
use Rattle.lb_step.proofs.Tied.{counted_anew}
use Rattle.lb_step.proofs.Picked.{picked_given}
use Rattle.lb_step.proofs.upstream.Upstream.pick.Goals as goal

pub returns-clause-picked : goal.returns-clause-picked
returns-clause-picked c =
    rw (← c.self.view_is)
    (c.pick.ensures
    ∙ ap (λ (servers : List Loaded). picked servers c.self.inside.park.pools c.args.pool) (sym (counted_anew c.self.inside.table c.self.inside.park.servers c.self.invariant.0.tied.loads)))

pub returns-clause-given : goal.returns-clause-given
returns-clause-given c =
    rw (← c.self.view_is, c.pick.ensures) (picked_given c.self.inside.park.next c.self.inside.park.servers c.self.inside.park.pools c.args.pool c.self.invariant.0.tied.given)

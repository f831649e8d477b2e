use Rattle.std.proofs.Common.{sym, ◌∙◌, ap, List}
use Rattle.lb_servers.specs.Server.{server_named}
use Rattle.lb_servers.specs.declared.server.Loaded.{Loaded}
use Rattle.lb_step.proofs.Tied.{counted_anew}
use Rattle.lb_step.proofs.upstream.Upstream.server_named.Goals as goal

pub returns : goal.returns
returns c =
    rw (← c.self.view_is)
    (c.server_named.ensures
    ∙ ap (λ (servers : List Loaded). server_named servers c.args.name.now) (sym (counted_anew c.self.inside.table c.self.inside.park.servers c.self.invariant.0.tied.loads)))

use Rattle.std.proofs.Common.{set, ap, ◌∙◌}
use Rattle.lb_servers.specs.declared.server.Loaded.{Loaded}
use Rattle.lb_servers.specs.Server.{marked}
use Rattle.lb_servers.proofs.ByNumber.{place_changed}
use Rattle.lb_servers.proofs.server.mark.Goals as goal

pub returns : goal.returns
returns c = λ id is. ap (λ (l : Loaded). set c.args.servers.now c.args.at l) c.mark.ensures ∙ place_changed id (marked c.args.up) c.args.servers.now c.args.at c.index-servers-at.result is

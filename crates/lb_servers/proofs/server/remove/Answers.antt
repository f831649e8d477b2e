use Rattle.std.proofs.Common.{◌∙◌, arith}
use Rattle.lb_servers.proofs.ByNumber.{place_removed}
use Rattle.lb_servers.proofs.server.remove.Goals as goal

pub returns : goal.returns
returns c = λ id is. c.remove.ensures.items ∙ place_removed id c.args.servers.now.items c.args.at (omega (arith, c.requires, c.args.servers.now.ok.0)) is

use Rattle.std.proofs.Common.{set, is_some, sym, ap, ◌∙◌}
use Rattle.lb_servers.specs.declared.server.Loaded.{Loaded}
use Rattle.lb_servers.specs.Server.{with_one_less}
use Rattle.lb_servers.proofs.ByNumber.{place_changed, unchanged}
use Rattle.lb_servers.proofs.server.ended.Goals as goal

pub returns-in-Some : goal.returns-in-Some
returns-in-Some c = ap (λ (l : Loaded). set c.args.servers.now c.in-Some.at l) c.ended.ensures ∙ place_changed c.args.id with_one_less c.args.servers.now c.in-Some.at c.index-servers-at.result (c.requires, sym c.place_of.ensures.place ∙ c.in-Some.is)

pub returns-in_default : goal.returns-in_default
returns-in_default c = sym (unchanged c.args.id with_one_less c.args.servers.now (sym c.place_of.ensures.there ∙ ap is_some c.in_default.is))

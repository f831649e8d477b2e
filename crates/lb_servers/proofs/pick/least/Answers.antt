use Rattle.std.proofs.Common.{Option, option_map, sym, ap, ◌∙◌}
use Rattle.lb_servers.specs.declared.server.Loaded.{Loaded}
use Rattle.lb_servers.specs.Pick.{best_of}
use Rattle.lb_servers.proofs.UpServers.{best_more}
use Rattle.lb_servers.proofs.pick.least.Goals as goal

pub loop-at-preserved : goal.loop-at-preserved
loop-at-preserved c =
    c.less_loaded-best.ensures
    ∙ ap (λ (best : Option Loaded). best_of best (option_map (λ l. l.now) c.server_at.result)) c.loop-at.invariant
    ∙ ap (best_of _) c.server_at.ensures
    ∙ sym (best_more c.args.servers.now c.args.ups.now c.loop-at.at-index 0 c.loop-at-test.true)

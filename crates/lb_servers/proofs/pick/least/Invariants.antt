use Rattle.std.proofs.Common.{◌≡◌, option_map, take}
use Rattle.std.specs.List.{reduce}
use Rattle.lb_servers.specs.Pick.{less_loaded, servers_at}
use Rattle.lb_servers.proofs.pick.least.Given as goal

abbrev pub invariant-loop-at : goal.invariant-loop-at
invariant-loop-at l = option_map (λ m. m.now) l.best ≡ reduce less_loaded (servers_at l.servers (take l.at-index l.ups))

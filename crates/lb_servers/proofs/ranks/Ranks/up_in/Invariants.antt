use Rattle.std.proofs.Common.{◌≡◌, take}
use Rattle.lb_servers.specs.Pick.{up_places}
use Rattle.lb_servers.proofs.ranks.Ranks.up_in.Given as goal

abbrev pub invariant-loop-at : goal.invariant-loop-at
invariant-loop-at l = l.items.items ≡ up_places l.pool l.servers (take l.at-index l.self)

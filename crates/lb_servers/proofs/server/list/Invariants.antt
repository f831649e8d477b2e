use Rattle.std.proofs.Common.{◌≡◌, take}
use Rattle.lb_servers.proofs.server.list.Given as goal

abbrev pub invariant-loop-server : goal.invariant-loop-server
invariant-loop-server l = l.list.items ≡ take l.server-index l.servers

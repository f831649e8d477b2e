use Rattle.std.proofs.Common.{◌≡◌, length}
use Rattle.lb_servers.proofs.UpServers.{AreUpsBelow}
use Rattle.lb_servers.proofs.ups.remake.Given as goal

abbrev pub invariant-loop-at : goal.invariant-loop-at
invariant-loop-at l = AreUpsBelow l.at l.servers l.ups × (length l.ups ≡ length l.fn.ups)

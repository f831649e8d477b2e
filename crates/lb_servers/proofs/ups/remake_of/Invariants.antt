use Rattle.std.proofs.Common.{◌≡◌, length, take}
use Rattle.lb_servers.specs.Pick.{AreRemade}
use Rattle.lb_servers.proofs.ups.remake_of.Given as goal

abbrev pub invariant-loop-pool : goal.invariant-loop-pool
invariant-loop-pool l = AreRemade (take l.pool-index l.pools) l.servers l.fn.ups l.ups × (length l.ups ≡ length l.fn.ups)

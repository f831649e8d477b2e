use Rattle.std.proofs.Common.{◌≡◌, take}
use Rattle.lb_servers.proofs.pool.list.Given as goal

abbrev pub invariant-loop-pool : goal.invariant-loop-pool
invariant-loop-pool l = l.list.items ≡ take l.pool-index l.pools

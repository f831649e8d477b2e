use Rattle.std.proofs.Common.{◌≡◌, ◌≤◌, length, take}
use Rattle.lb_servers.specs.Spec.{pools_named}
use Rattle.lb_servers.proofs.spec.pools_named.Given as goal

abbrev pub invariant-loop-name : goal.invariant-loop-name
invariant-loop-name l = (l.ids ≡ pools_named l.pools (take l.name-index l.names)) × (length l.ids ≤ l.name-index)

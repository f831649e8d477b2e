use Rattle.std.proofs.Common.{◌≡◌, map, take}
use Rattle.lb_step.specs.Upstream.{server_of}
use Rattle.lb_step.proofs.upstream.list_servers.Given as goal

abbrev pub invariant-loop-one : goal.invariant-loop-one
invariant-loop-one l = l.list.items ≡ map server_of (take l.one-index l.loaded)

use Rattle.std.proofs.Common.{◌≡◌, map, take}
use Rattle.lb_step.specs.Upstream.{server_of}
use Rattle.lb_servers.specs.declared.server.Loaded.{Loaded}
use Rattle.lb_program.specs.Servers.{placed}
use Rattle.lb_program.proofs.servers.all_placed.Given as goal

abbrev pub invariant-loop-loaded : goal.invariant-loop-loaded
invariant-loop-loaded l = l.places.items ≡ map (λ (one : Loaded). placed l.checks (server_of one)) (take l.loaded-index l.servers)

use Rattle.futures.specs.Task.{Keeps}
use Rattle.lb_doh_server.proofs.connections.next_client.Given as goal

abbrev pub invariant-loop-place : goal.invariant-loop-place
invariant-loop-place l = Keeps l.fn.cx l.cx

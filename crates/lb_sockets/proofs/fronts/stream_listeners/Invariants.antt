use Rattle.std.proofs.Common.{is_some, map, take, ◌≡◌}
use Rattle.lb_sockets.proofs.fronts.stream_listeners.Given as goal

abbrev pub invariant-loop-end : goal.invariant-loop-end
invariant-loop-end g l = map is_some l.listeners.items ≡ map is_some (take l.end-index l.ends)

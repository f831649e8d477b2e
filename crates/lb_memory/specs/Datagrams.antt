-- What sockets in memory tell.
use Rattle.std.specs.Prelude.{ℕ, List, map}
use Rattle.lb_loops_io.specs.declared.endpoint.Endpoint.{Endpoint}
use Rattle.lb_loops_io.specs.declared.traffic.Datagram.{Datagram}
use Rattle.lb_loops_io.specs.declared.traffic.Socket.{Socket}

-- datagrams, from their sockets and ends with their octets
abbrev pub told : List ((Socket × Endpoint) × List ℕ) → List Datagram
told pairs = map (λ (p : (Socket × Endpoint) × List ℕ). record { socket = p.0.0; peer = p.0.1; bytes = p.1 }) pairs

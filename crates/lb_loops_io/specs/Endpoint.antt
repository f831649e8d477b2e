-- Ends of a transport.
use Rattle.std.specs.Prelude.{Bool, false, ◌&&◌, ◌==◌}
use Rattle.std.specs.Str.{bytes_eq}
use Rattle.lb_wire.specs.declared.addr.Addr.{Addr}
use Rattle.lb_wire.specs.declared.addr.Addr.TheVariants.{V4, V6}
use Rattle.lb_loops_io.specs.declared.endpoint.Endpoint.{Endpoint}

abbrev pub is_addr : Addr → Addr → Bool
is_addr (V4 a) (V4 b) = bytes_eq a b
is_addr (V6 a) (V6 b) = bytes_eq a b
is_addr (V4 a) (V6 b) = false
is_addr (V6 a) (V4 b) = false

-- whether two ends are the same
abbrev pub is_endpoint : Endpoint → Endpoint → Bool
is_endpoint a b = is_addr a.addr b.addr && (a.port == b.port)

-- What the lines of a setup file listen with.
use Rattle.std.specs.Prelude.{◌≡◌, List, map, Option, Some, None}
use Rattle.std.specs.Int.NonZero.{non_zero_u16_get}
use Rattle.lb_command.specs.declared.setup.Listener.{Listener}
use Rattle.lb_command.specs.declared.setup.Protocol.{Protocol}
use Rattle.lb_command.specs.declared.setup.Protocol.TheVariants as protocols
use Rattle.lb_loops_io.specs.declared.endpoint.Endpoint.{Endpoint}
use Rattle.lb_loops_io.specs.declared.traffic.Service.{Service}
use Rattle.lb_loops_io.specs.declared.traffic.Service.TheVariants as services

-- the end that a line listens at
abbrev pub end_of : Listener → Endpoint
end_of line = record { addr = line.addr; port = non_zero_u16_get line.port }

-- an end of a line of this protocol, and none of one of another
abbrev pub end_between : Protocol → Protocol → Endpoint → Option Endpoint
end_between protocols.Udp protocols.Udp end = Some end
end_between protocols.Tcp protocols.Tcp end = Some end
end_between protocols.Doh protocols.Doh end = Some end
end_between protocols.Console protocols.Console end = Some end
end_between _ _ end = None

abbrev pub end_by : Protocol → Listener → Option Endpoint
end_by protocol line = end_between protocol line.protocol (end_of line)

-- what listens at the place of a line
abbrev pub service_by : Protocol → Service
service_by protocols.Udp = services.Datagram
service_by protocols.Tcp = services.Stream
service_by protocols.Doh = services.Http
service_by protocols.Console = services.Console

abbrev pub service_of : Listener → Service
service_of line = service_by line.protocol

-- what listens at each place of these lines, for two loops
abbrev pub AreFronts : List Service → List Service → List Listener → Type 0
AreFronts one other lines = (one ≡ map service_of lines) × (other ≡ map service_of lines)

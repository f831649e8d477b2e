-- The events that datagrams make.
use Rattle.std.specs.Prelude.{◌≡◌, ℕ, Bool, true, false, List, Option, Some, None, if◌then◌else◌, filter_map}
use Rattle.lb_wire.specs.declared.addr.Origin.{Origin}
use Rattle.lb_wire.specs.declared.transport.Kind.TheVariants as kinds
use Rattle.lb_step.specs.declared.event.Event.{Event}
use Rattle.lb_step.specs.declared.event.Event.TheVariants.{Edit, HealthResult, Query, Reply, Tick}
use Rattle.lb_loops_io.specs.Endpoint.{is_endpoint}
use Rattle.lb_loops_io.specs.declared.endpoint.Endpoint.{Endpoint}
use Rattle.lb_loops_io.specs.declared.traffic.Datagram.{Datagram}
use Rattle.lb_loops_io.specs.declared.traffic.Socket.{Socket}
use Rattle.lb_loops_io.specs.declared.traffic.Socket.TheVariants.{Listener, Server}

-- who asks by a datagram to a listener: the listener's place, slot 0, and the end that the datagram came from
abbrev pub asker : ℕ → Endpoint → Origin
asker front peer = record { front = front; slot = 0; source = peer.addr; port = peer.port }

-- the event that a datagram makes, at a moment and with a random word
abbrev pub event_at : ℕ → ℕ → Socket → Endpoint → List ℕ → Event
event_at now word (Listener front) peer bytes = Query now (asker front peer) kinds.Datagram word bytes
event_at now word (Server server number at) peer bytes = Reply now server (record { kind = kinds.Datagram; number = number }) bytes

-- whether a datagram came to a server's socket from elsewhere than the server
abbrev pub is_strange : Socket → Endpoint → Bool
is_strange (Listener front) peer = false
is_strange (Server server number at) peer = if is_endpoint at peer then false else true

-- the event of a datagram, its moment and word left out; a stranger's makes none
abbrev pub event_of : Datagram → Option Event
event_of d = if is_strange d.socket d.peer then None else Some (event_at 0 0 d.socket d.peer d.bytes)

-- the events that these datagrams make, in order
abbrev pub heard : List Datagram → List Event
heard = filter_map event_of

-- an event, its moment and word left out
abbrev pub timeless : Event → Event
timeless (Query now origin kind word bytes) = Query 0 origin kind 0 bytes
timeless (Reply now server lane bytes) = Reply 0 server lane bytes
timeless (Tick now) = Tick 0
timeless (HealthResult now server ok) = HealthResult 0 server ok
timeless (Edit now command) = Edit 0 command

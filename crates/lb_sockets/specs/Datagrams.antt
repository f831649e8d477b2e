-- What sockets of datagrams tell, and which listeners there are.
use Rattle.std.specs.Prelude.{ℕ, Bool, true, false, List, map, Option, Some, Result, slice_get}
use Rattle.lb_loops_io.specs.Moves.{Sent}
use Rattle.lb_loops_io.specs.declared.endpoint.Endpoint.{Endpoint}
use Rattle.lb_loops_io.specs.declared.report.Why.{Why}
use Rattle.lb_loops_io.specs.declared.traffic.Datagram.{Datagram}
use Rattle.lb_loops_io.specs.declared.traffic.Socket.{Socket}
use Rattle.lb_loops_io.specs.declared.traffic.Socket.TheVariants.{Listener, Server}
use Rattle.lb_sockets.specs.declared.sender.Sender.{Sender}
use Rattle.lb_sockets.specs.declared.servers.Upstream.{Upstream}

-- datagrams, from their sockets and ends with their octets
abbrev pub told : List ((Socket × Endpoint) × List ℕ) → List Datagram
told pairs = map (λ (p : (Socket × Endpoint) × List ℕ). record { socket = p.0.0; peer = p.0.1; bytes = p.1 }) pairs

-- a place that is there, and has a listener
abbrev pub is_taken : {A : Type 0} → Option (Option A) → Bool
is_taken (Some (Some socket)) = true
is_taken _ = false

-- whether there is a listener of a place, by the listeners at their places
abbrev pub listens_at : {A : Type 0} → List (Option A) → ℕ → Bool
listens_at sockets front = is_taken (slice_get sockets front)

-- a datagram to an end by the listener of a place
abbrev pub from_listener : ℕ → Endpoint → List ℕ → Datagram
from_listener front to bytes = record { socket = Listener front; peer = to; bytes = bytes }

-- a datagram to an end by the socket of a server
abbrev pub from_server : Upstream → Endpoint → List ℕ → Datagram
from_server upstream to bytes = record { socket = Server upstream.server upstream.number upstream.at; peer = to; bytes = bytes }

-- a send of a datagram, beside the listeners at their places: what it answers, and the sender and the failures before and after
abbrev pub SentBy : {A : Type 0} → Result (Unit {0}) Why → List (Option A) → Datagram → Sender → Sender → ℕ → ℕ → Type 0
SentBy result listeners datagram old new before after = Sent result (listens_at listeners) datagram (told old.taken.items) (told new.taken.items) before after

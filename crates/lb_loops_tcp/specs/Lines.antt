-- The lines of a turn of streams.
use Rattle.std.specs.Prelude.{◌≡◌, ℕ, ◌⊎◌, Bool, true, false, List, [], ◌∷◌, Option, Some, None, flat_map, slice_get, if◌then◌else◌, ◌==◌}
use Rattle.lb_loops_connections.specs.Table.{at}
use Rattle.lb_loops_connections.specs.declared.connection.Connection.{Connection}
use Rattle.lb_step.specs.declared.event.Event.{Event}
use Rattle.lb_step.specs.declared.event.Event.TheVariants.{Query, Reply}
use Rattle.lb_loops_io.specs.Counts.{Rose}
use Rattle.lb_loops_io.specs.Letter.{IsOutcome, Letter, job_letter, outcome_letter}
use Rattle.lb_loops_io.specs.Roster.{end_of}
use Rattle.lb_loops_io.specs.Ways.{messages_to}
use Rattle.lb_loops_io.specs.declared.endpoint.Endpoint.{Endpoint}
use Rattle.lb_loops_io.specs.declared.letter.End.TheVariants.{Client, Server}
use Rattle.lb_loops_io.specs.declared.report.Line.{Line}
use Rattle.lb_loops_io.specs.declared.report.Line.TheVariants as lines
use Rattle.lb_loops_io.specs.declared.report.Sending.{Sending}
use Rattle.lb_loops_io.specs.declared.report.Sending.TheVariants.{Done, Failed, Nothing}
use Rattle.lb_loops_io.specs.declared.report.Source.TheVariants as sources
use Rattle.lb_loops_io.specs.declared.report.Way.TheVariants as ways
use Rattle.lb_loops_io.specs.declared.report.Why.{Why}
use Rattle.lb_loops_io.specs.declared.report.Why.TheVariants as whys
use Rattle.lb_loops_io.specs.declared.roster.Listed.{Listed}
use Rattle.lb_loops_io.specs.declared.traffic.Service.{Service}
use Rattle.lb_loops_io.specs.declared.traffic.Service.TheVariants as services
use Rattle.lb_loops_io.specs.declared.traffic.Peer.{Peer}
use Rattle.lb_loops_io.specs.declared.traffic.Peer.TheVariants as peers
use Rattle.lb_loops_tcp.specs.Goes.{IsFull, IsOver, NoClient, NoNumber, both}
use Rattle.lb_loops_tcp.specs.Links.{IsPeer, Net, link, shut}
use Rattle.lb_wire.specs.declared.ids.ServerId.{ServerId}
use Rattle.lb_wire.specs.declared.transport.Kind.{Kind}
use Rattle.lb_wire.specs.declared.transport.Kind.TheVariants as kinds
use Rattle.lb_wire.specs.declared.transport.Lane.{Lane}

-- The event that a message of a connection makes, at a moment and with a random word: a client's is a query, whose slot is the
-- connection's number; a server's is a reply.
abbrev pub event_by : ℕ → ℕ → ℕ → Peer → List ℕ → Event
event_by now word n (peers.Client front from) bytes = Query now (record { front = front; slot = n; source = from.addr; port = from.port }) kinds.Stream word bytes
event_by now word n (peers.Server server number to) bytes = Reply now server (record { kind = kinds.Stream; number = number }) bytes

-- an event that a message of this connection made, whose peer was there, or came or was dialled since
pub record IsFrom (old new : Net) (n : ℕ) (event : Event) : Type 0 where
  pub peer : Peer
  pub is : IsPeer (link n old) (link n new) peer
  pub now : ℕ
  pub word : ℕ
  pub bytes : List ℕ
  pub made : event ≡ event_by now word n peer bytes

-- the octets of an event
abbrev pub octets_in : Event → List (List ℕ)
octets_in (Query now origin kind word bytes) = bytes ∷ []
octets_in (Reply now server lane bytes) = bytes ∷ []
octets_in _ = []

-- the message that a line took of this connection
abbrev pub message_by : ℕ → Line → List (List ℕ)
message_by c (lines.Event (sources.Connection n) event outcome sending) = if n == c then octets_in event else []
message_by c _ = []

-- the messages that these lines took of each connection, and those that they sent to it
abbrev pub messages_by : List Line → ℕ → List (List ℕ)
messages_by lines c = flat_map (message_by c) lines

abbrev pub sends_to : List Line → ℕ → List (List ℕ)
sends_to lines c = messages_to c lines

-- whether HTTP requests come by a listener
abbrev pub is_http : Option Service → Bool
is_http (Some services.Http) = true
is_http _ = false

-- a connection was closed in this time
abbrev pub IsClosed : ℕ → Net → Net → Type 0
IsClosed n old new = (shut (link n old) ≡ false) × (shut (link n new) ≡ true)

-- a connection to a server at this end, by the upstream socket with this number, was open in this time
abbrev pub IsServers : ℕ → ServerId → ℕ → Endpoint → Net → Type 0
IsServers n server number to new = ((link n new).below ≡ true) × ((y : Connection) → at n new.table ≡ Some y → y.peer ≡ peers.Server server number to)

-- why a message to an HTTP request is not handed over: the request had ended, or memory was lacking
abbrev pub FitsPost : Why → Type 0
FitsPost whys.Gone = Unit {0}
FitsPost whys.NoMemory = Unit {0}
FitsPost _ = ⊥

-- why a message is not sent to a connection: it had ended; more octets would wait to be written to it than may; or there was no memory
-- for it, and then a client's connection is closed
abbrev pub FitsConnection : Net → Net → (ℕ → List (List ℕ)) → ℕ → List ℕ → Why → Type 0
FitsConnection old new sends n bytes whys.Gone = IsOver n old new
FitsConnection old new sends n bytes whys.Limit = IsFull n old new (sends n) bytes
FitsConnection old new sends n bytes whys.NoMemory = NoClient n new
FitsConnection old new sends n bytes _ = ⊥

abbrev pub is_stream : Kind → Bool
is_stream kinds.Stream = true
is_stream kinds.Datagram = false

-- a connection was, or is since, one to a server at this end, by the upstream socket with this number
abbrev pub IsMeant : ℕ → Net → Net → ServerId → ℕ → Endpoint → Type 0
IsMeant n old new server number to = IsPeer (link n old) (link n new) (peers.Server server number to)

-- Why a message is not sent to a server that the roster has: it goes by no stream; no number was left for a
-- connection; the connection to the server was closed; more octets would wait to be written to that one than
-- may; a device failed; or memory was refused.
abbrev pub FitsServer : Net → Net → (ℕ → List (List ℕ)) → ServerId → Endpoint → Lane → List ℕ → Why → Type 0
FitsServer old new sends server to lane bytes whys.Gone =
    (is_stream lane.kind ≡ false) ⊎ (NoNumber old new ⊎ ((n : ℕ) × (IsMeant n old new server lane.number to × IsClosed n old new)))
FitsServer old new sends server to lane bytes whys.Limit = (n : ℕ) × (IsMeant n old new server lane.number to × IsFull n old new (sends n) bytes)
FitsServer old new sends server to lane bytes whys.Device = Rose old.told.failures new.told.failures
FitsServer old new sends server to lane bytes whys.NoMemory = Unit {0}
FitsServer old new sends server to lane bytes _ = ⊥

-- what comes of a message to a client of a listener: by the waiting request of HTTP, or by the connection of its slot
abbrev pub ComesPost : Sending → Type 0
ComesPost Nothing = ⊥
ComesPost (Done way) = way ≡ ways.Post
ComesPost (Failed why) = FitsPost why

abbrev pub ComesClient : Net → Net → (ℕ → List (List ℕ)) → ℕ → List ℕ → Sending → Type 0
ComesClient old new sends n bytes Nothing = ⊥
ComesClient old new sends n bytes (Done way) = way ≡ ways.Connection n
ComesClient old new sends n bytes (Failed why) = FitsConnection old new sends n bytes why

-- what comes of a message to a server, where the roster has it: it goes by a connection to the end that the roster has
abbrev pub ComesServer : Net → Net → (ℕ → List (List ℕ)) → ServerId → Lane → Option Endpoint → List ℕ → Sending → Type 0
ComesServer old new sends server lane None bytes sending = sending ≡ Failed whys.NoServer
ComesServer old new sends server lane (Some to) bytes Nothing = ⊥
ComesServer old new sends server lane (Some to) bytes (Done way) = (n : ℕ) × (way ≡ ways.Connection n) × IsServers n server lane.number to new
ComesServer old new sends server lane (Some to) bytes (Failed why) = FitsServer old new sends server to lane bytes why

-- the first where HTTP requests come by a listener, else the second
abbrev pub by_front : Bool → Type 0 → Type 0 → Type 0
by_front true http stream = http
by_front false http stream = stream

-- what comes of a letter
abbrev pub ComesTo : List Service → List Listed → Net → Net → (ℕ → List (List ℕ)) → Letter → Sending → Type 0
ComesTo listens roster old new sends (Client origin, bytes) sending = by_front (is_http (slice_get listens origin.front)) (ComesPost sending) (ComesClient old new sends origin.slot bytes sending)
ComesTo listens roster old new sends (Server server lane, bytes) sending = ComesServer old new sends server lane (end_of server roster) bytes sending

-- what comes of a send: nothing where there is no letter
abbrev pub Comes : List Service → List Listed → Net → Net → (ℕ → List (List ℕ)) → Option Letter → Sending → Type 0
Comes listens roster old new sends None sending = sending ≡ Nothing
Comes listens roster old new sends (Some letter) sending = ComesTo listens roster old new sends letter sending

-- a line: an event that a message of a connection made, or a job; what came of it; and what came of its send, after these
abbrev pub IsLine : List Service → List Listed → Net → Net → (ℕ → List (List ℕ)) → Line → Type 0
IsLine listens roster old new sends (lines.Event source event outcome sending) = ((n : ℕ) × (source ≡ sources.Connection n) × IsFrom old new n event) × IsOutcome event outcome × Comes listens roster old new sends (outcome_letter event outcome) sending
IsLine listens roster old new sends (lines.Job job sending) = Comes listens roster old new sends (Some (job_letter job)) sending
IsLine listens roster old new sends (lines.Probe server word sending) = ⊥

abbrev pub AreLines : List Service → List Listed → Net → Net → (ℕ → List (List ℕ)) → List Line → Type 0
AreLines listens roster old new sends [] = Unit {0}
AreLines listens roster old new sends (line ∷ more) = IsLine listens roster old new sends line × AreLines listens roster old new (both sends (sends_to (line ∷ []))) more

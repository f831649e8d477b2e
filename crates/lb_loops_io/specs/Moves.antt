-- What a call of sockets does to what they gave and took.
use Rattle.std.specs.Prelude.{◌≡◌, ℕ, ◌+◌, ◌≤◌, Bool, true, false, List, [], ◌∷◌, ◌++◌, length, take, flat_map, if◌then◌else◌, ◌==◌, Result, Ok, Err}
use Rattle.lb_wire.specs.Octets.{max_message}
use Rattle.lb_loops_io.specs.Counts.{Fails}
use Rattle.lb_loops_io.specs.declared.endpoint.Endpoint.{Endpoint}
use Rattle.lb_loops_io.specs.declared.report.Why.{Why}
use Rattle.lb_loops_io.specs.declared.report.Why.TheVariants as whys
use Rattle.lb_loops_io.specs.declared.traffic.Accepted.{Accepted}
use Rattle.lb_loops_io.specs.declared.traffic.Accepted.TheVariants as accepted
use Rattle.lb_loops_io.specs.declared.traffic.Datagram.{Datagram}
use Rattle.lb_loops_io.specs.declared.traffic.Read.{Read}
use Rattle.lb_loops_io.specs.declared.traffic.Read.TheVariants as reads
use Rattle.lb_loops_io.specs.declared.traffic.Received.{Received}
use Rattle.lb_loops_io.specs.declared.traffic.Received.TheVariants as received
use Rattle.lb_loops_io.specs.declared.traffic.Socket.{Socket}
use Rattle.lb_loops_io.specs.declared.traffic.Socket.TheVariants.{Listener, Server}

-- a read of datagrams: what it answers, what was given before and after, the failures before and after
abbrev pub Gave : {E : Type 0} → Result Received E → List Datagram → List Datagram → ℕ → ℕ → Type 0
Gave (Ok (received.Packet d)) old new before after = (new ≡ old ++ d ∷ []) × (after ≡ before)
Gave (Ok received.Nothing) old new before after = (new ≡ old) × (after ≡ before)
Gave (Ok received.Failed) old new before after = (new ≡ old) × Fails before after
Gave (Err refused) old new before after = (new ≡ old) × (after ≡ before)

-- there is a listener of a socket's place
abbrev pub is_there : (ℕ → Bool) → Socket → Bool
is_there listens (Listener front) = listens front
is_there listens (Server server number at) = true

-- a send of a datagram: what it answers, what was taken before and after, the failures before and after
abbrev pub Sent : Result (Unit {0}) Why → (ℕ → Bool) → Datagram → List Datagram → List Datagram → ℕ → ℕ → Type 0
Sent (Ok done) listens d old new before after = (new ≡ old ++ d ∷ []) × (after ≡ before) × (is_there listens d.socket ≡ true)
Sent (Err whys.NoServer) listens d old new before after = ⊥
Sent (Err whys.Gone) listens d old new before after = (new ≡ old) × (after ≡ before) × (is_there listens d.socket ≡ false)
Sent (Err whys.Limit) listens d old new before after = ⊥
Sent (Err whys.Full) listens d old new before after = ⊥
Sent (Err whys.Device) listens d old new before after = (new ≡ old) × Fails before after
Sent (Err whys.NoMemory) listens d old new before after = (new ≡ old) × (after ≡ before)

-- the number of a connection, and octets that it gave or took at one time
abbrev pub Piece : Type 0
Piece = ℕ × List ℕ

-- the octets of one connection, in order
abbrev pub octets_of : ℕ → List Piece → List ℕ
octets_of c = flat_map (λ (piece : Piece). if piece.0 == c then piece.1 else [])

-- a client that came: the place of its listener, and its end
abbrev pub Client : Type 0
Client = ℕ × Endpoint

-- what sockets of streams tell: the pieces that they gave and took; the clients that came and the
-- ends that were dialled, each with its connection's number; the connections whose peer closed its
-- side, and those whose peer takes no more; how many clients were turned away; how often a device
-- failed; how often a connection was read or a client that waits was asked for, whatever came of
-- it; the connections at which a device failed when they were read or written; and those of which a
-- piece was refused room
pub record Traffic : Type 0 where
  pub given : List Piece
  pub taken : List Piece
  pub came : List (ℕ × Client)
  pub dialed : List (ℕ × Endpoint)
  pub ended : List ℕ
  pub gone : List ℕ
  pub turned : ℕ
  pub failures : ℕ
  pub reads : ℕ
  pub failed : List ℕ
  pub lacked : List ℕ

-- the same after one read or accept more
abbrev pub read_once : Traffic → Traffic
read_once t = record t { reads = t.reads + 1 }

-- a device failed, and nothing else is told
abbrev pub Faulty : Traffic → Traffic → Type 0
Faulty old new = (n : ℕ) × Fails old.failures n × (new ≡ record old { failures = n })

-- a device failed when this connection was read or written, and nothing else is told
abbrev pub FaultyAt : ℕ → Traffic → Traffic → Type 0
FaultyAt c old new = (n : ℕ) × Fails old.failures n × (new ≡ record old { failures = n; failed = old.failed ++ c ∷ [] })

-- a read of a stream: what it answers, the connection, what was told before and after
abbrev pub GavePiece : {E : Type 0} → Result Read E → ℕ → Traffic → Traffic → Type 0
GavePiece (Ok (reads.Piece octets)) c old new = new ≡ record old { given = old.given ++ (c, octets) ∷ []; reads = old.reads + 1 }
GavePiece (Ok reads.Nothing) c old new = new ≡ read_once old
GavePiece (Ok reads.Ended) c old new = new ≡ record old { ended = old.ended ++ c ∷ []; reads = old.reads + 1 }
GavePiece (Ok reads.Failed) c old new = FaultyAt c (read_once old) new
GavePiece (Err refused) c old new = new ≡ record old { lacked = old.lacked ++ c ∷ []; reads = old.reads + 1 }

-- a write to a stream: how many of the octets were taken
abbrev pub Took : Result ℕ Why → ℕ → List ℕ → Traffic → Traffic → Type 0
Took (Ok n) c octets old new = (n ≤ length octets) × (new ≡ record old { taken = old.taken ++ (c, take n octets) ∷ [] })
Took (Err whys.Gone) c octets old new = new ≡ record old { gone = old.gone ++ c ∷ [] }
Took (Err whys.Device) c octets old new = FaultyAt c old new
Took (Err _) c octets old new = ⊥

-- a client taken in
abbrev pub Came : {E : Type 0} → Result Accepted E → ℕ → Traffic → Traffic → Type 0
Came (Ok (accepted.Client front peer)) c old new = new ≡ record old { came = old.came ++ (c, (front, peer)) ∷ []; reads = old.reads + 1 }
Came (Ok accepted.Nothing) c old new = new ≡ read_once old
Came (Ok accepted.Failed) c old new = Faulty (read_once old) new
Came (Err refused) c old new = new ≡ read_once old

-- a client taken in and closed at once
abbrev pub TurnedAway : Accepted → Traffic → Traffic → Type 0
TurnedAway (accepted.Client front peer) old new = new ≡ record old { turned = old.turned + 1; reads = old.reads + 1 }
TurnedAway accepted.Nothing old new = new ≡ read_once old
TurnedAway accepted.Failed old new = Faulty (read_once old) new

-- a connection begun; where that fails, no connection has its number
abbrev pub Dialed : Result (Unit {0}) Why → ℕ → Endpoint → Traffic → Traffic → Type 0
Dialed (Ok done) c to old new = new ≡ record old { dialed = old.dialed ++ (c, to) ∷ [] }
Dialed (Err whys.Device) c to old new = Faulty old new
Dialed (Err whys.NoMemory) c to old new = new ≡ old
Dialed (Err _) c to old new = ⊥

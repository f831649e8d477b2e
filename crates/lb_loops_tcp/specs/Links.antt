-- One connection: what it gave and took, what is held of it, and how it fares.
use Rattle.std.specs.Prelude.{◌≡◌, ℕ, ◌+◌, ◌<◌, ◌≤◌, ◌⊎◌, Bool, true, false, List, [], ◌∷◌, ◌++◌, length, flat_map, if◌then◌else◌, ◌==◌, ◌&&◌, nat_lt, Option, Some, None}
use Rattle.std.specs.List.{Contains, count_by}
use Rattle.lb_loops_connections.specs.Table.{Table, at, is_client, is_none}
use Rattle.lb_loops_connections.specs.Writing.{max_waiting}
use Rattle.lb_loops_connections.specs.declared.connection.Connection.{Connection}
use Rattle.lb_loops_frames.specs.Frames.{AreMessages, NoneWhole, framed, frames}
use Rattle.lb_loops_io.specs.Moves.{Client, Traffic, octets_of}
use Rattle.lb_loops_io.specs.declared.endpoint.Endpoint.{Endpoint}
use Rattle.lb_loops_io.specs.declared.report.DeviceFault.{DeviceFault}
use Rattle.lb_loops_io.specs.declared.traffic.Peer.{Peer}
use Rattle.lb_loops_io.specs.declared.traffic.Peer.TheVariants as peers

-- what is held of a connection
abbrev pub held : Option Connection → List ℕ
held None = []
held (Some x) = x.incoming

-- what waits to be written to it
abbrev pub unwritten : Option Connection → List ℕ
unwritten None = []
unwritten (Some x) = x.outgoing

-- what is told of one number
abbrev pub of_number : {A : Type 0} → ℕ → List (ℕ × A) → List A
of_number {A} c = flat_map (λ (told : ℕ × A). if told.0 == c then told.1 ∷ [] else [])

-- all of one connection: the octets that it gave and took, the clients and the ends that came under
-- its number, how often its peer closed its side and took no more, how often a device failed at it,
-- how often a piece of it was refused room, and how often memory was refused for it, whether its
-- number was given, and what it is now
pub record Link : Type 0 where
  pub given : List ℕ
  pub taken : List ℕ
  pub came : List Client
  pub dialed : List Endpoint
  pub ended : ℕ
  pub gone : ℕ
  pub failed : ℕ
  pub lacked : ℕ
  pub refused : ℕ
  pub below : Bool
  pub here : Option Connection

-- sockets of streams, the table of their connections, and the first device fault since it was last asked for
pub record Net : Type 0 where
  pub told : Traffic
  pub table : Table
  pub device : Option DeviceFault

abbrev pub link : ℕ → Net → Link
link c net = record {
  given = octets_of c net.told.given;
  taken = octets_of c net.told.taken;
  came = of_number c net.told.came;
  dialed = of_number c net.told.dialed;
  ended = count_by (λ n. n == c) net.told.ended;
  gone = count_by (λ n. n == c) net.told.gone;
  failed = count_by (λ n. n == c) net.told.failed;
  lacked = count_by (λ n. n == c) net.told.lacked;
  refused = count_by (λ n. n == c) net.table.refusals;
  below = nat_lt c net.table.next;
  here = at c net.table;
}

-- the number was given, and its connection is not open
abbrev pub shut : Link → Bool
shut l = l.below && is_none l.here

-- What was held, followed by what came, is these messages, each after its length, followed by what is held now.
pub record Heard (a b : Link) (rest : List ℕ) (messages : List (List ℕ)) : Type 0 where
  pub gave : List ℕ
  pub given : b.given ≡ a.given ++ gave
  pub are : AreMessages messages
  pub told : held a.here ++ gave ≡ frames messages ++ rest

-- What was taken, followed by this rest, grew by these messages, each after its length.
abbrev pub Promised : Link → Link → List ℕ → List (List ℕ) → Type 0
Promised a b rest sends = b.taken ++ rest ≡ (a.taken ++ unwritten a.here) ++ frames sends

-- its peer had closed its side, or did so since
abbrev pub HasEnded : Link → Link → Type 0
HasEnded a b = ((y : Connection) × (a.here ≡ Some y) × (y.is_ended ≡ true)) ⊎ (a.ended < b.ended)

-- a connection was opened since
abbrev pub Opened : Link → Link → Type 0
Opened a b = (length a.came < length b.came) ⊎ (length a.dialed < length b.dialed)

-- its number was given before, or it was opened since
abbrev pub HasBeen : Link → Link → Type 0
HasBeen a b = (a.below ≡ true) ⊎ Opened a b

-- the peer came or was dialled since
abbrev pub NewPeer : Link → Link → Peer → Type 0
NewPeer a b (peers.Client front from) = (more : List Client) × (b.came ≡ a.came ++ more) × Contains more (front, from)
NewPeer a b (peers.Server server number to) = (more : List Endpoint) × (b.dialed ≡ a.dialed ++ more) × Contains more to

-- who is at the other end of a connection is who was there, or came or was dialled since
abbrev pub IsPeer : Link → Link → Peer → Type 0
IsPeer a b peer = ((y : Connection) × (a.here ≡ Some y) × (y.peer ≡ peer)) ⊎ NewPeer a b peer

-- its peer is who it was, or came since; and where it asks no more, it did so before, or closed its side since
pub record Own (a b : Link) (x : Connection) : Type 0 where
  pub peer : IsPeer a b x.peer
  pub ended : x.is_ended ≡ true → HasEnded a b

-- a server was at the other end
abbrev pub WasServer : Link → Link → Type 0
WasServer a b = ((y : Connection) × (a.here ≡ Some y) × (is_client y.peer ≡ false)) ⊎ (length a.dialed < length b.dialed)

-- its peer closed its side, has all that was sent to it, and none of its messages is left
pub record Finished (a b : Link) (messages sends : List (List ℕ)) : Type 0 where
  pub ended : HasEnded a b
  pub rest : List ℕ
  pub none : NoneWhole rest
  pub heard : Heard a b rest messages
  pub promised : Promised a b [] sends

-- with a message more, more octets would wait to be written than may, what was written since left aside
abbrev pub Over : Link → List (List ℕ) → List ℕ → Type 0
Over a sends message = max_waiting < length (unwritten a.here) + length (frames sends) + length (framed message)

-- Why a connection is closed, each cause of this connection alone: a device failed at it; memory
-- was refused for it; its peer takes no more; its server closed its side; its client did, and has
-- its answers; or more would wait to be written to it than may.
abbrev pub Leaves : Link → Link → List (List ℕ) → List (List ℕ) → Type 0
Leaves a b messages sends =
    (a.failed < b.failed)
    ⊎ ((a.refused < b.refused)
    ⊎ ((a.gone < b.gone)
    ⊎ (((a.ended < b.ended) × WasServer a b)
    ⊎ (Finished a b messages sends
    ⊎ ((message : List ℕ) × Over a sends message)))))

-- a closed connection stays so: it gives and takes nothing, nothing fails at it, and no message is
-- of it or for it
pub record Still (a b : Link) (messages sends : List (List ℕ)) : Type 0 where
  pub given : b.given ≡ a.given
  pub taken : b.taken ≡ a.taken
  pub failed : b.failed ≡ a.failed
  pub lacked : b.lacked ≡ a.lacked
  pub refused : b.refused ≡ a.refused
  pub here : b.here ≡ None
  pub no_messages : messages ≡ []
  pub no_sends : sends ≡ []

-- How the connection of one number fares: these messages were taken from what was held of it and
-- what came, and these were sent to it. What its socket took, followed by what waits to be written,
-- grew by those; it is who it was; it is opened once; one at which a device failed, or of which a
-- piece was refused room, is not open; and where it is closed there is a cause.
pub record Fares (a b : Link) (messages sends : List (List ℕ)) : Type 0 where
  pub taken : (more : List ℕ) × (b.taken ≡ a.taken ++ more)
  pub came : (more : List Client) × (b.came ≡ a.came ++ more)
  pub dialed : (more : List Endpoint) × (b.dialed ≡ a.dialed ++ more)
  pub ended : a.ended ≤ b.ended
  pub gone : a.gone ≤ b.gone
  pub failed : a.failed ≤ b.failed
  pub lacked : a.lacked ≤ b.lacked
  pub refused : a.refused ≤ b.refused
  pub sound : shut b ≡ false → (b.failed ≡ a.failed) × (b.lacked ≡ a.lacked)
  pub below : a.below ≡ true → b.below ≡ true
  pub once : a.below ≡ true → (b.came ≡ a.came) × (b.dialed ≡ a.dialed)
  pub unopened : b.below ≡ false → (b.came ≡ a.came) × (b.dialed ≡ a.dialed)
  pub stays : shut a ≡ true → Still a b messages sends
  pub heard : shut b ≡ false → Heard a b (held b.here) messages
  pub promised : shut b ≡ false → Promised a b (unwritten b.here) sends
  pub own : (x : Connection) → b.here ≡ Some x → Own a b x
  pub left : shut a ≡ false → HasBeen a b → shut b ≡ true → Leaves a b messages sends

-- What an open connection does while it stays open: octets come and messages are taken of them; messages are put after what it is to write, and octets of that
-- are taken; and its peer may close its side.
pub record Moves (a b : Link) (x y : Connection) (messages sends : List (List ℕ)) : Type 0 where
  pub was : a.here ≡ Some x
  pub is : b.here ≡ Some y
  pub below : b.below ≡ a.below
  pub came : b.came ≡ a.came
  pub dialed : b.dialed ≡ a.dialed
  pub gone : b.gone ≡ a.gone
  pub failed : b.failed ≡ a.failed
  pub lacked : b.lacked ≡ a.lacked
  pub refused : a.refused ≤ b.refused
  pub ended : a.ended ≤ b.ended
  pub peer : y.peer ≡ x.peer
  pub asked : y.is_ended ≡ true → (x.is_ended ≡ true) ⊎ (a.ended < b.ended)
  pub gave : List ℕ
  pub given : b.given ≡ a.given ++ gave
  pub are : AreMessages messages
  pub told : x.incoming ++ gave ≡ frames messages ++ y.incoming
  pub took : List ℕ
  pub taken : b.taken ≡ a.taken ++ took
  pub put : took ++ y.outgoing ≡ x.outgoing ++ frames sends

-- so it fares
abbrev pub MovedFares : Type 0
MovedFares = (a b : Link) (x y : Connection) (messages sends : List (List ℕ)) → Moves a b x y messages sends → Fares a b messages sends

-- A connection is closed, and has a cause to be.
pub record Ends (a b : Link) (messages sends : List (List ℕ)) : Type 0 where
  pub here : b.here ≡ None
  pub before : shut a ≡ false
  pub below : b.below ≡ true
  pub came : b.came ≡ a.came
  pub dialed : b.dialed ≡ a.dialed
  pub gone : a.gone ≤ b.gone
  pub failed : a.failed ≤ b.failed
  pub lacked : a.lacked ≤ b.lacked
  pub refused : a.refused ≤ b.refused
  pub ended : a.ended ≤ b.ended
  pub took : List ℕ
  pub taken : b.taken ≡ a.taken ++ took
  pub cause : Leaves a b messages sends

-- so it fares
abbrev pub EndedFares : Type 0
EndedFares = (a b : Link) (messages sends : List (List ℕ)) → Ends a b messages sends → Fares a b messages sends

-- a connection that is not touched
pub record Same (a b : Link) : Type 0 where
  pub given : b.given ≡ a.given
  pub taken : b.taken ≡ a.taken
  pub came : b.came ≡ a.came
  pub dialed : b.dialed ≡ a.dialed
  pub ended : b.ended ≡ a.ended
  pub gone : b.gone ≡ a.gone
  pub failed : b.failed ≡ a.failed
  pub lacked : b.lacked ≡ a.lacked
  pub refused : b.refused ≡ a.refused
  pub below : b.below ≡ a.below
  pub here : b.here ≡ a.here

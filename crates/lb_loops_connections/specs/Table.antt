-- Connections by their numbers.
use Rattle.std.specs.Prelude.{◌≡◌, ◌≢◌, ◌⊎◌, ℕ, ◌≤◌, ◌%◌, ◌+◌, ◌-◌, min, nat_le, nat_lt, Bool, true, false, not, ◌&&◌, List, [], ◌∷◌, length, map, ◌++◌, ◌<◌, ◌^◌, if◌then◌else◌, ◌==◌, Option, Some, None, get_or}
use Rattle.std.specs.Option.{is_some, unwrap_or}
use Rattle.std.specs.List.{count_by}
use Rattle.lb_loops_connections.specs.declared.connection.Connection.{Connection}
use Rattle.lb_loops_frames.specs.Frames.{NoneWhole, framed}
use Rattle.lb_loops_io.specs.Endpoint.{is_endpoint}
use Rattle.lb_loops_io.specs.Roster.{end_of}
use Rattle.lb_loops_io.specs.declared.endpoint.Endpoint.{Endpoint}
use Rattle.lb_loops_io.specs.declared.roster.Listed.{Listed}
use Rattle.lb_loops_io.specs.declared.traffic.Peer.{Peer}
use Rattle.lb_loops_io.specs.declared.traffic.Peer.TheVariants as peers
use Rattle.lb_wire.specs.declared.ids.ServerId.{ServerId}

-- the connection at a place, where it has this number
abbrev pub if_number : ℕ → Option Connection → Option Connection
if_number c None = None
if_number c (Some x) = if x.number == c then Some x else None

abbrev pub at_place : ℕ → List (Option Connection) → Option Connection
at_place c slots = if_number c (get_or slots (c % 4096) None)

abbrev pub is_none : Option Connection → Bool
is_none None = true
is_none (Some x) = false

abbrev pub is_client : Peer → Bool
is_client (peers.Client front at) = true
is_client (peers.Server server number at) = false

-- whether a client's connection stands at a place
abbrev pub holds_client : Option Connection → Bool
holds_client None = false
holds_client (Some x) = is_client x.peer

abbrev pub clients_in : List (Option Connection) → ℕ
clients_in slots = count_by holds_client slots

-- a place with a connection has one whose number was given
abbrev pub is_given : ℕ → Option Connection → Bool
is_given last None = true
is_given last (Some x) = nat_le x.number last

abbrev pub IsGiven : ℕ → Option Connection → Type 0
IsGiven last place = is_given last place ≡ true

-- the first of each of these pairs, in order
abbrev pub firsts : List (ℕ × ℕ) → List ℕ
firsts = map (λ (pair : ℕ × ℕ). pair.0)

-- the connections of a loop: the next number, which is 2^64 once all are given, the places, and the
-- connections for which memory was refused, in order
pub record Table : Type 0 where
  pub next : ℕ
  pub slots : List (Option Connection)
  pub refusals : List ℕ

-- the open connection of a number
abbrev pub at : ℕ → Table → Option Connection
at c t = if nat_lt c t.next then at_place c t.slots else None

-- whether a further connection may stand at the place of a number
abbrev pub vacant : ℕ → Table → Bool
vacant c t = is_none (get_or t.slots (c % 4096) None)

-- how many clients are connected
abbrev pub clients : Table → ℕ
clients t = clients_in t.slots

-- one for a client's connection, none for a server's
abbrev pub client_count : Connection → ℕ
client_count x = if is_client x.peer then 1 else 0

-- the connection of a number was x and is y, and no other changed
pub record Swaps (n : ℕ) (a b : Table) (x y : Connection) : Type 0 where
  pub was : at n a ≡ Some x
  pub is : at n b ≡ Some y
  pub others : (c : ℕ) → c ≢ n → at c b ≡ at c a
  pub next : b.next ≡ a.next
  pub refusals : b.refusals ≡ a.refusals
  pub clients : clients b ≡ clients a

-- no connection is open, and the first number is 1
pub record IsNew (t : Table) : Type 0 where
  pub next : t.next ≡ 1
  pub none : (c : ℕ) → at c t ≡ None
  pub refusals : t.refusals ≡ []

-- numbers were passed over, and nothing else changed
pub record Narrows (old new : Table) : Type 0 where
  pub next : old.next ≤ new.next
  pub same : new ≡ record old { next = new.next }
  pub all : (c : ℕ) → at c new ≡ at c old

-- the open connection of this number is one to a server at this end, by the upstream socket with this number
abbrev pub IsTo : ℕ → ServerId → ℕ → Endpoint → Table → Type 0
IsTo n server lane end t = (x : Connection) × (at n t ≡ Some x) × (x.peer ≡ peers.Server server lane end)

-- this message stands first in what came of the open connection of this number, which has this peer
abbrev pub IsFirst : ℕ → Peer → List ℕ → Table → Type 0
IsFirst n peer message t = (x : Connection) × (rest : List ℕ) × (at n t ≡ Some x) × (x.peer ≡ peer) × (length message < 2 ^ 16) × (x.incoming ≡ framed message ++ rest)

-- no whole message is in what came of the open connection of this number, where there is one
abbrev pub HasNone : ℕ → Table → Type 0
HasNone n t = (x : Connection) → at n t ≡ Some x → NoneWhole x.incoming

-- the peer of a connection has closed its side, nothing is left to be answered, and all was written
pub record IsDone (x : Connection) : Type 0 where
  pub ended : x.is_ended ≡ true
  pub owed : x.owed ≡ 0
  pub written : x.outgoing ≡ []
  pub none : NoneWhole x.incoming

-- something is to be done for an open connection: it was passed over, or it is at its end
abbrev pub IsToSee : Option Connection → Type 0
IsToSee None = ⊥
IsToSee (Some x) = (x.is_passed_over ≡ true) ⊎ IsDone x

-- how many messages more were put on a server's connection than were taken of it, once one more is put
-- there, 2^64-1 at most; a client's connection does not count these
abbrev pub owed_with : Connection → ℕ
owed_with x = if is_client x.peer then x.owed else min (x.owed + 1) (2 ^ 64 - 1)

-- the same, once one is taken of it
abbrev pub owed_without : Connection → ℕ
owed_without x = if is_client x.peer then x.owed else x.owed - 1

-- a server's connection is to be closed at some moment, and nothing is awaited by it
abbrev pub is_left : Connection → Bool
is_left x = is_some x.until && (not (is_client x.peer) && (x.owed == 0))

-- when a connection is closed at the latest
abbrev pub closes_at : Connection → ℕ
closes_at x = if is_left x then 0 else unwrap_or x.until (2 ^ 64 - 1)

-- nothing is left to be answered of a connection, and all was written
pub record IsIdle (x : Connection) : Type 0 where
  pub owed : x.owed ≡ 0
  pub written : x.outgoing ≡ []
  pub none : NoneWhole x.incoming

-- a connection may be closed once its time is over: a client that has not closed its side only if it is idle
abbrev pub MayEnd : Connection → Type 0
MayEnd x = (is_client x.peer ≡ false) ⊎ ((x.is_ended ≡ true) ⊎ IsIdle x)

-- a connection is to be closed at this moment: its time is over, and it may be closed then, or nothing is awaited by it
pub record IsOverdue (now : ℕ) (x : Connection) : Type 0 where
  pub until : ℕ
  pub is : x.until ≡ Some until
  pub over : ((until ≤ now) × MayEnd x) ⊎ (is_left x ≡ true)

-- whether an end is the one that the roster has
abbrev pub is_end : Endpoint → Option Endpoint → Bool
is_end at None = false
is_end at (Some there) = is_endpoint there at

-- how long a server's connection is read on that is not at the roster's end, in milliseconds
abbrev pub read_on : ℕ
read_on = 60000

-- the moment at which a server's connection is closed: none if it is at the roster's end; else that which
-- was set before, or one that comes so much later
abbrev pub until_after : Bool → ℕ → Option ℕ → Option ℕ
until_after true now until = None
until_after false now until = Some (unwrap_or until (min (now + read_on) (2 ^ 64 - 1)))

-- the same of any connection, by the roster; a client's is left as it is
abbrev pub followed_by : Peer → List Listed → ℕ → Option ℕ → Option ℕ
followed_by (peers.Client front at) listed now until = until
followed_by (peers.Server server number at) listed now until = until_after (is_end at (end_of server listed)) now until

abbrev pub followed : List Listed → ℕ → Connection → Option ℕ
followed listed now x = followed_by x.peer listed now x.until

-- when a connection that was held against the roster is closed at the latest: 2^64-1 for a client's, which
-- the roster does not concern
abbrev pub follows_until : Connection → ℕ
follows_until x = if is_client x.peer then 2 ^ 64 - 1 else closes_at x

-- a connection is the same to its peer: its number, its peer, what came of it, what is to be written
-- to it, and whether its peer has closed its side are unchanged
abbrev pub SameToPeer : Connection → Connection → Type 0
SameToPeer x y = (y.number ≡ x.number) × (y.peer ≡ x.peer) × (y.incoming ≡ x.incoming) × (y.outgoing ≡ x.outgoing) × (y.is_ended ≡ x.is_ended)

-- the same, but for what came of it
abbrev pub SameButIncoming : Connection → Connection → Type 0
SameButIncoming x y = (y.number ≡ x.number) × (y.peer ≡ x.peer) × (y.outgoing ≡ x.outgoing) × (y.is_ended ≡ x.is_ended)

-- The number of a connection is noted after these, once; if it was noted before, or there is no memory for
-- it, nothing changes.
abbrev pub Touches : Connection → Connection → List ℕ → List ℕ → Type 0
Touches x y old new = ((x.is_touched ≡ false) × (y ≡ record x { is_touched = true }) × (new ≡ old ++ (x.number ∷ []))) ⊎ ((y ≡ x) × (new ≡ old))

-- A connection waits for its turn after these: it stands there already, or has no whole message, and nothing
-- changes; or its number comes after them.
abbrev pub Queues : Connection → Connection → List ℕ → List ℕ → Type 0
Queues x y old new =
    (((x.is_queued ≡ true) ⊎ NoneWhole x.incoming) × (y ≡ x) × (new ≡ old))
    ⊎ ((x.is_queued ≡ false) × (y ≡ record x { is_queued = true }) × (new ≡ old ++ (x.number ∷ [])))

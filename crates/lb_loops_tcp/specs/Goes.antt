-- What happens to the connections of a loop.
use Rattle.std.specs.Prelude.{◌≡◌, ◌≢◌, ℕ, ◌+◌, ◌≤◌, ◌^◌, ◌⊎◌, Bool, List, [], ◌∷◌, ◌++◌, Option, Some, None, Result, Ok, Err, length, true, false, if◌then◌else◌, ◌==◌}
use Rattle.lb_loops_connections.specs.Table.{IsDone, IsNew, at, clients, is_client}
use Rattle.lb_loops_connections.specs.declared.connection.Connection.{Connection}
use Rattle.lb_loops_io.specs.Counts.{Fails, Rose}
use Rattle.lb_loops_io.specs.Moves.{Traffic, TurnedAway}
use Rattle.lb_loops_io.specs.declared.report.DeviceFault.{DeviceFault}
use Rattle.lb_loops_io.specs.declared.report.DeviceFault.TheVariants as devices
use Rattle.lb_loops_io.specs.declared.report.Why.{Why}
use Rattle.lb_loops_io.specs.declared.report.Why.TheVariants as whys
use Rattle.lb_loops_io.specs.declared.traffic.Accepted.{Accepted}
use Rattle.lb_loops_tcp.specs.Links.{Fares, Net, Over, Same, link, shut}

-- how many clients may be connected, and how many connections a table has places for
abbrev pub max_clients : ℕ
max_clients = 1024

abbrev pub places : ℕ
places = 4096

-- no number could be given to a further connection: so many were passed over as there are places, or all are used up
abbrev pub NoNumber : Net → Net → Type 0
NoNumber old new = (old.table.next + places ≤ new.table.next) ⊎ (2 ^ 64 ≤ new.table.next)

-- a client was turned away only where as many clients were connected as may be, or where no number was left
abbrev pub TurnsAway : Net → Net → Type 0
TurnsAway old new = (new.told.turned ≡ old.told.turned) ⊎ ((max_clients + length old.told.came ≤ clients old.table + length new.told.came) ⊎ NoNumber old new)

-- a fault of the sockets, where none was noted before
abbrev pub noted : Option DeviceFault → Option DeviceFault
noted None = Some devices.Sockets
noted (Some fault) = Some fault

-- the same, where a call of the sockets was refused for this
abbrev pub noted_by : Why → Option DeviceFault → Option DeviceFault
noted_by whys.Device device = noted device
noted_by _ device = device

-- The first device fault is noted: it stands while more is done, and there is none where the sockets did not fail.
abbrev pub Notes : Option DeviceFault → Option DeviceFault → ℕ → ℕ → Type 0
Notes (Some fault) device before after = device ≡ Some fault
Notes None None before after = after ≡ before
Notes None (Some devices.Sockets) before after = Fails before after
Notes None (Some devices.Outside) before after = ⊥

-- how often connections were read and clients that wait were asked for, whatever came of it
abbrev pub reads_of : Net → ℕ
reads_of net = net.told.reads

-- how many of these reads gave something: a piece, a client, the end of a peer's side, or a client
-- that was turned away
abbrev pub gave_of : Net → ℕ
gave_of net = length net.told.given + length net.told.came + length net.told.ended + net.told.turned

-- What happens to connections while these messages are taken from them, and these are sent to them, each by the number of its connection.
-- Each thing that sockets gave, a read or an accept of its own gave.
pub record Goes (old new : Net) (messages sends : ℕ → List (List ℕ)) : Type 0 where
  pub fares : (c : ℕ) → Fares (link c old) (link c new) (messages c) (sends c)
  pub failures : old.told.failures ≤ new.told.failures
  pub next : old.table.next ≤ new.table.next
  pub gone : length old.told.gone ≤ length new.told.gone
  pub came : length old.told.came ≤ length new.told.came
  pub connected : clients new.table + length old.told.came ≤ clients old.table + length new.told.came
  pub turned : TurnsAway old new
  pub noted : Notes old.device new.device old.told.failures new.told.failures
  pub counted : gave_of new + reads_of old ≤ gave_of old + reads_of new

-- sockets that turned a client away, or had none to, or failed
abbrev pub TurnedFrom : Traffic → Traffic → Type 0
TurnedFrom old new = (result : Accepted) × TurnedAway result old new

-- what a step does beside the connection that it is about: no client comes or is turned away
pub record Beside (old new : Net) : Type 0 where
  pub failures : old.told.failures ≤ new.told.failures
  pub next : old.table.next ≤ new.table.next
  pub gone : length old.told.gone ≤ length new.told.gone
  pub came : new.told.came ≡ old.told.came
  pub turned : new.told.turned ≡ old.told.turned
  pub clients : clients new.table ≤ clients old.table
  pub noted : Notes old.device new.device old.told.failures new.told.failures
  pub counted : gave_of new + reads_of old ≤ gave_of old + reads_of new

-- a step of one connection, which fares so, while no other is touched, is what all go through
abbrev pub OneGoes : Type 0
OneGoes = (n : ℕ) (old new : Net) (messages sends : ℕ → List (List ℕ)) → ((c : ℕ) → c ≢ n → Same (link c old) (link c new)) → ((c : ℕ) → c ≢ n → (messages c ≡ []) × (sends c ≡ []))
    → Fares (link n old) (link n new) (messages n) (sends n) → Beside old new → Goes old new messages sends

-- nothing
abbrev pub none : ℕ → List (List ℕ)
none c = []

-- this one message, of or to this connection
abbrev pub just : ℕ → List ℕ → ℕ → List (List ℕ)
just n message c = if n == c then message ∷ [] else []

-- first these, then those
abbrev pub both : (ℕ → List (List ℕ)) → (ℕ → List (List ℕ)) → ℕ → List (List ℕ)
both a b c = a c ++ b c

-- what connections go through in two steps, they go through in all
abbrev pub GoesOn : Type 0
GoesOn = (a b c : Net) (m n s r : ℕ → List (List ℕ)) → Goes a b m s → Goes b c n r → Goes a c (both m n) (both s r)

-- a message sent to this connection, where it was put after what that is to write
abbrev pub sent_so : Result (Unit {0}) Why → ℕ → List ℕ → ℕ → List (List ℕ)
sent_so (Ok done) n message = just n message
sent_so (Err why) n message = none

-- a message sent to the connection that was found
abbrev pub sent_by : Result ℕ Why → List ℕ → ℕ → List (List ℕ)
sent_by (Ok n) message = just n message
sent_by (Err why) message = none

-- its connection had ended, or its number was never given
abbrev pub IsOver : ℕ → Net → Net → Type 0
IsOver n old new = (shut (link n new) ≡ true) ⊎ (old.table.next ≤ n)

-- with this message, and what was sent to it in this time, more would wait to be written to a connection than may: it is closed
abbrev pub IsFull : ℕ → Net → Net → List (List ℕ) → List ℕ → Type 0
IsFull n old new sends message = (shut (link n old) ≡ false) × (shut (link n new) ≡ true) × Over (link n old) sends message

-- whether a connection is closed to which a message was not put for this cause: where it is at its limit, and that of a client for lack of
-- memory
abbrev pub is_given_up : Why → Option Connection → Bool
is_given_up whys.Limit x = true
is_given_up whys.NoMemory (Some x) = is_client x.peer
is_given_up why x = false

-- a number that was given, under which no client is connected any more
abbrev pub NoClient : ℕ → Net → Type 0
NoClient n new = ((link n new).below ≡ true) × ((y : Connection) → (link n new).here ≡ Some y → is_client y.peer ≡ false)

-- why a message is not put after what a connection is to write; where there was no memory for it, that of a client is closed
abbrev pub Misses : Net → Net → ℕ → List ℕ → Why → Type 0
Misses old new n message whys.Gone = IsOver n old new
Misses old new n message whys.Limit = IsFull n old new [] message
Misses old new n message whys.NoMemory = NoClient n new
Misses old new n message _ = ⊥

-- why there is no connection to a server
abbrev pub Lacks : Net → Net → Why → Type 0
Lacks old new whys.Gone = NoNumber old new
Lacks old new whys.Device = Rose old.told.failures new.told.failures
Lacks old new whys.NoMemory = Unit {0}
Lacks old new _ = ⊥

-- the connection of a number is not open at its end: its peer has not closed its side, or something
-- is left to be answered or written
abbrev pub IsUndone : ℕ → Net → Type 0
IsUndone n net = (x : Connection) → at n net.table ≡ Some x → IsDone x → ⊥

-- no connection but that of this number changed
abbrev pub SameBut : ℕ → Net → Net → Type 0
SameBut n old new = (c : ℕ) → c ≢ n → at c new.table ≡ at c old.table

-- Each connection that was not open at its end is not open at its end: one that came there was closed.
abbrev pub Settles : Net → Net → Type 0
Settles old new = (c : ℕ) → IsUndone c old → IsUndone c new

-- of new connections none is open at its end
abbrev pub NoneDone : Type 0
NoneDone = (net : Net) → IsNew net.table → (c : ℕ) → IsUndone c net

-- a client that waited was turned away, or there was none
pub record TurnsOneAway (old new : Net) : Type 0 where
  pub told : TurnedFrom old.told new.told
  pub table : new.table ≡ old.table
  pub noted : Notes old.device new.device old.told.failures new.told.failures

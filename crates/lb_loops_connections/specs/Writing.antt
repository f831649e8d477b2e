-- What is put after what a connection is to write.
use Rattle.std.specs.Prelude.{◌≡◌, ◌⊎◌, ◌+◌, ◌<◌, ◌≤◌, ℕ, false, List, [], ◌∷◌, ◌++◌, length, Option, Some, None}
use Rattle.lb_loops_connections.specs.Table.{Swaps, Table, at, owed_with}
use Rattle.lb_loops_connections.specs.declared.connection.Connection.{Connection}
use Rattle.lb_loops_frames.specs.Frames.{framed}
use Rattle.lb_loops_io.specs.declared.report.Why.{Why}
use Rattle.lb_loops_io.specs.declared.report.Why.TheVariants as whys

-- the most octets that may wait to be written to a connection, 1,024 KiB
abbrev pub max_waiting : ℕ
max_waiting = 1048576

-- from more octets than these on that wait, they are written at once
abbrev pub many_waiting : ℕ
many_waiting = 65536

-- with this message more octets would wait to be written to an open connection than may
abbrev pub IsOver : List ℕ → Option Connection → Type 0
IsOver message None = ⊥
IsOver message (Some x) = max_waiting < length x.outgoing + length (framed message)

-- an open connection is written before the turn ends: many octets wait, or it is not noted that it is to be written
abbrev pub IsUrgent : Option Connection → Type 0
IsUrgent None = ⊥
IsUrgent (Some x) = (many_waiting < length x.outgoing) ⊎ (x.is_touched ≡ false)

-- a message was put after what the connection of a number is to write, where no more octets wait now than may
pub record Puts (n : ℕ) (message : List ℕ) (a b : Table) : Type 0 where
  pub x : Connection
  pub y : Connection
  pub swaps : Swaps n a b x y
  pub same : y ≡ record x { outgoing = x.outgoing ++ framed message; owed = owed_with x; is_touched = y.is_touched }
  pub within : length y.outgoing ≤ max_waiting

-- Why a message is not put there: there is no such connection; more octets would wait to be written to it than may; or memory was
-- refused for an open connection. That is noted; else nothing changes.
abbrev pub MayNotPut : ℕ → List ℕ → Table → Table → Why → Type 0
MayNotPut n message t u whys.Gone = (at n t ≡ None) × (u ≡ t)
MayNotPut n message t u whys.Limit = (x : Connection) × (at n t ≡ Some x) × (max_waiting < length x.outgoing + length (framed message)) × (u ≡ t)
MayNotPut n message t u whys.NoMemory = (x : Connection) × (at n t ≡ Some x) × (u ≡ record t { refusals = t.refusals ++ n ∷ [] })
MayNotPut n message t u _ = ⊥

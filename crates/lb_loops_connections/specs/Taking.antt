-- What is taken of what came.
use Rattle.std.specs.Prelude.{◌≡◌, ◌<◌, ◌^◌, ℕ, List, ◌++◌, length}
use Rattle.lb_loops_connections.specs.Table.{Swaps, Table, owed_without}
use Rattle.lb_loops_connections.specs.declared.connection.Connection.{Connection}
use Rattle.lb_loops_frames.specs.Frames.{framed}

-- the message that stands first in what came of the connection of a number was taken off
pub record Takes (n : ℕ) (message : List ℕ) (a b : Table) : Type 0 where
  pub x : Connection
  pub y : Connection
  pub swaps : Swaps n a b x y
  pub fits : length message < 2 ^ 16
  pub front : x.incoming ≡ framed message ++ y.incoming
  pub same : y ≡ record x { incoming = y.incoming; owed = owed_without x; is_queued = y.is_queued }

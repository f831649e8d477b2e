-- What holds of limiters, whatever they count.
use Rattle.std.specs.Prelude.{◌≡◌, ℕ, ◌≤◌, false, List, Contains}
use Rattle.lb_wire.specs.declared.addr.Addr.{Addr}
use Rattle.lb_limits.specs.declared.pass.Pass.{Pass}
use Rattle.lb_limits.specs.Window.{ArePasses, Limits, matches, passed_at, put_key, recent_passes, reserved_at}

-- passes given up earlier change nothing later
abbrev pub RecentTwice : Type 0
RecentTwice = (m now : ℕ) (passes : List Pass) → m ≤ now → recent_passes now (recent_passes m passes) ≡ recent_passes now passes

-- a masked address that was put among the reserved ones is one of them
abbrev pub PutIsThere : Type 0
PutIsThere = (key : Addr) (reserved : List Addr) → Contains (put_key key reserved) key

-- a reservation changes no test at its moment or later
abbrev pub ReservingKeepsMatches : Type 0
ReservingKeepsMatches = (l : Limits) (other addr : Addr) (m now : ℕ) → m ≤ now → matches (reserved_at l other m) addr now ≡ matches l addr now

-- what the passes of a limiter keep true, those of them keep true that count at a moment, whatever is reserved
abbrev pub RecentArePasses : Type 0
RecentArePasses = (now : ℕ) (l : Limits) (reserved : List Addr) → ArePasses l → ArePasses (record l { moment = now; passes = recent_passes now l.passes; reserved = reserved })

-- so they do with a query counted that does not match
abbrev pub PassedArePasses : Type 0
PassedArePasses = (l : Limits) (addr : Addr) (now : ℕ) → matches l addr now ≡ false → ArePasses l → ArePasses (passed_at l addr now)

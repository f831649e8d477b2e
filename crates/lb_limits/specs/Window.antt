-- Rate windows: the passes of each masked address within the last 1,000 milliseconds.
use Rattle.std.specs.Prelude.{ℕ, ◌+◌, ◌<◌, ◌≤◌, Bool, not, ◌&&◌, ◌||◌, ◌==◌, nat_le, List, [], ◌∷◌, ◌++◌, length, map, if◌then◌else◌}
use Rattle.std.specs.List.{All, filter, insert, position, list_any}
use Rattle.std.specs.List.Sorted.{IsSorted}
use Rattle.std.specs.Option.{unwrap_or}
use Rattle.std.specs.Set.{distinct_count}
use Rattle.lb_wire.specs.declared.addr.Addr.{Addr}
use Rattle.lb_masks.specs.Mask.{masked_of}
use Rattle.lb_limits.specs.declared.pass.Pass.{Pass}
use Rattle.lb_limits.specs.Order.{cmp_pass, same_addr, is_before}
use Rattle.lb_limits.specs.Moments.{is_recent}

-- a limiter: how many passes an address may have, the lengths that addresses are masked to, the moment that it stands
-- at, the passes in order, and the masked addresses that there is room reserved for
pub record Limits : Type 0 where
  pub qps : ℕ
  pub v4 : ℕ
  pub v6 : ℕ
  pub moment : ℕ
  pub passes : List Pass
  pub reserved : List Addr

-- a limiter with these numbers that has counted nothing
abbrev pub limits_of : ℕ → ℕ → ℕ → Limits
limits_of qps v4 v6 = record { qps = qps; v4 = v4; v6 = v6; moment = 0; passes = []; reserved = [] }

-- the address that passes are counted under
abbrev pub source_of : Limits → Addr → Addr
source_of l addr = masked_of l.v4 l.v6 addr

-- the passes that count: those whose moments are later than 1,000 milliseconds before now
abbrev pub recent_passes : ℕ → List Pass → List Pass
recent_passes now passes = filter (λ (pass : Pass). is_recent now pass.moment) passes

-- the window of a masked address: its passes that count
abbrev pub window_of : Addr → ℕ → List Pass → List Pass
window_of key now passes = filter (λ pass. same_addr key pass.source) (recent_passes now passes)

abbrev pub in_window : Addr → ℕ → List Pass → ℕ
in_window key now passes = length (window_of key now passes)

-- the sources other than a masked address of the passes that count
abbrev pub others_of : Addr → ℕ → List Pass → List Addr
others_of key now passes = filter (λ source. not (same_addr key source)) (map (λ pass. pass.source) (recent_passes now passes))

-- how many other addresses have passes that count; each is counted once, wherever its passes stand
abbrev pub live_of : Addr → ℕ → List Pass → ℕ
live_of key now passes = distinct_count same_addr (others_of key now passes)

-- where so many other addresses have passes that count, one that has none matches
abbrev pub max_live : ℕ
max_live = 4096

-- whether a query from the address is over the rate: its window is full, or it has none and there are too many others
abbrev pub matches : Limits → Addr → ℕ → Bool
matches l addr now =
    nat_le l.qps (in_window (source_of l addr) now l.passes) || (in_window (source_of l addr) now l.passes == 0 && nat_le max_live (live_of (source_of l addr) now l.passes))

-- with a pass at its place in the order, after those equal to it
abbrev pub put_pass : Pass → List Pass → List Pass
put_pass pass passes = insert passes (unwrap_or (position (is_before pass) passes) (length passes)) pass

-- with a masked address, once
abbrev pub put_key : Addr → List Addr → List Addr
put_key key reserved = if list_any (same_addr key) reserved then reserved else reserved ++ key ∷ []

-- passes that no longer count are given up, and there is room for one more of the address
abbrev pub reserved_at : Limits → Addr → ℕ → Limits
reserved_at l addr now = record l { moment = now; passes = recent_passes now l.passes; reserved = put_key (source_of l addr) l.reserved }

-- a query is counted, and nothing is reserved any more
abbrev pub passed_at : Limits → Addr → ℕ → Limits
passed_at l addr now = record l { moment = now; passes = put_pass (record { source = source_of l addr; moment = now }) (recent_passes now l.passes); reserved = [] }

-- what the passes that a limiter holds keep true: they are by source, IPv4 first and then by octets, and then by moment; each
-- is later than 1,000 milliseconds before the limiter's moment; and no address has more of them than the rate
pub record ArePasses (l : Limits) : Type 0 where
  pub order : IsSorted cmp_pass l.passes
  pub count : All (λ (pass : Pass). l.moment < pass.moment + 1000) l.passes
  pub rate : (key : Addr) → in_window key l.moment l.passes ≤ l.qps

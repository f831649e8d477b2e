-- Servers by order, those of one order by age.
use Rattle.std.specs.Prelude.{◌≡◌, ℕ, nat_lt, Bool, false, List, [], length, map, Option, None, Some, slice_get}
use Rattle.std.specs.List.{fold, insert, position}
use Rattle.std.specs.Option.{unwrap_or}
use Rattle.lb_servers.specs.declared.server.Loaded.{Loaded}

-- whether a server comes after those of an order
abbrev pub is_behind : ℕ → Loaded → Bool
is_behind order l = nat_lt order l.server.order

-- a younger server put into its place: after those of its order, before those of a greater one
abbrev pub put_by_order : List Loaded → Loaded → List Loaded
put_by_order servers l = insert servers (unwrap_or (position (is_behind l.server.order) servers) (length servers)) l

-- the servers, which stand by age, sorted by order
abbrev pub by_order : List Loaded → List Loaded
by_order servers = fold put_by_order [] servers

-- whether a server that may not be there comes after those of an order
abbrev pub behind : ℕ → Option Loaded → Bool
behind order None = false
behind order (Some l) = is_behind order l

-- at these places of a list stand, one after the other, those servers
abbrev pub StandAt : List Loaded → List ℕ → List Loaded → Type 0
StandAt servers places those = map (slice_get servers) places ≡ map Some those

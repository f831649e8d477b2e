-- Slots in the order of the keys of the replies in them.
use Rattle.std.specs.Prelude.{ℕ, List, map, ◌++◌}
use Rattle.lb_wire.specs.declared.key.Key.{Key}
use Rattle.lb_wire.specs.declared.transport.Kind.{Kind}
use Rattle.lb_wire.specs.declared.transport.Kind.TheVariants.{Datagram, Stream}
use Rattle.lb_index_ranks.specs.declared.filed.Filed.{Filed}
use Rattle.lb_cache.specs.Keys.{key_with}

-- a filed pair as a key of this transport with its slot
abbrev pub listed : Kind → Filed → Key × ℕ
listed kind f = (key_with kind f.key, f.rank)

-- the keys with their slots, datagrams first
abbrev pub listed_in : List Filed → List Filed → List (Key × ℕ)
listed_in datagrams streams = map (listed Datagram) datagrams ++ map (listed Stream) streams

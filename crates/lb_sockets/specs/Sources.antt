-- Where clients of streams come from.
use Rattle.lb_masks.specs.Mask.{masked_of}
use Rattle.lb_wire.specs.declared.addr.Addr.{Addr}

-- the source of a client: its IPv4 address, or the first 64 bits of its IPv6 address
abbrev pub source_of : Addr → Addr
source_of = masked_of 32 64

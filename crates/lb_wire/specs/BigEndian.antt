-- Numbers on the wire, the high octet first (RFC 1035 section 2.3.2).
use Rattle.std.specs.Prelude.{ℕ, List, take, drop}
use Rattle.std.specs.Int.{w16, w32, to_be_bytes, from_be_bytes}

-- a number in two octets
abbrev pub two_octets : ℕ → List ℕ
two_octets n = to_be_bytes w16 n

-- a number in four octets
abbrev pub four_octets : ℕ → List ℕ
four_octets n = to_be_bytes w32 n

-- the number in the two octets at a place
abbrev pub number_at : List ℕ → ℕ → ℕ
number_at bytes at = from_be_bytes w16 (take 2 (drop at bytes))

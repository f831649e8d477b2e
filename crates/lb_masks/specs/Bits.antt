-- The bits of an address, the high one first (RFC 4291 section 2.3, RFC 4632 section 3.1).
use Rattle.std.specs.Prelude.{◌≡◌, ℕ, ◌-◌, ◌*◌, ◌/◌, ◌%◌, ◌^◌, ◌<◌, ◌≤◌, List, [], ◌∷◌, slice_index}
use Rattle.std.specs.Int.{bit_at}
use Rattle.lb_wire.specs.declared.addr.Addr.{Addr}
use Rattle.lb_wire.specs.declared.addr.Addr.TheVariants.{V4, V6}

-- the octets of an address, in network order
abbrev pub octets_of : Addr → List ℕ
octets_of (V4 octets) = octets
octets_of (V6 octets) = octets

-- a bit of octets, counted from 0 at the high bit of the first octet
abbrev pub bit_of : List ℕ → ℕ → ℕ
bit_of octets k = bit_at (slice_index octets (k / 8)) (7 - k % 8)

-- the first so many bits are equal
abbrev pub SameBits : ℕ → List ℕ → List ℕ → Type 0
SameBits count a b = (k : ℕ) → k < count → bit_of a k ≡ bit_of b k

-- the first so many bits of the old octets, and then zeros
pub record KeepsBits (count : ℕ) (old new : List ℕ) : Type 0 where
  pub kept : SameBits count old new
  pub cleared : (k : ℕ) → count ≤ k → bit_of new k ≡ 0

-- two addresses of one family, with octets of which this holds
abbrev pub OneFamily : (List ℕ → List ℕ → Type 0) → Addr → Addr → Type 0
OneFamily P (V4 a) (V4 b) = P a b
OneFamily P (V6 a) (V6 b) = P a b
OneFamily P (V4 a) (V6 b) = ⊥
OneFamily P (V6 a) (V4 b) = ⊥

-- an octet with its bits past the first so many cleared
abbrev pub kept_octet : ℕ → ℕ → ℕ
kept_octet count octet = octet / 2 ^ (8 - count) * 2 ^ (8 - count)

-- octets with their bits past the first so many cleared
abbrev pub kept_octets : ℕ → List ℕ → List ℕ
kept_octets count [] = []
kept_octets count (octet ∷ octets) = kept_octet count octet ∷ kept_octets (count - 8) octets

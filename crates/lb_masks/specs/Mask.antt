-- Masks: an address and how many of its first bits count (RFC 4291 section 2.3, RFC 4632 section 3.1).
use Rattle.std.specs.Prelude.{◌≡◌, ℕ, ◌≤◌, nat_le, Option, Some, None, if◌then◌else◌}
use Rattle.lb_wire.specs.declared.addr.Addr.{Addr}
use Rattle.lb_wire.specs.declared.addr.Addr.TheVariants.{V4, V6}
use Rattle.lb_masks.specs.Bits.{octets_of, bit_of, SameBits, OneFamily, kept_octets}

-- a prefix: an address, and how many of its first bits all addresses under it share
pub record Prefix : Type 0 where
  pub network : Addr
  pub len : ℕ

-- how many bits an address of the family has
abbrev pub width : Addr → ℕ
width (V4 octets) = 32
width (V6 octets) = 128

-- the address with its bits past the first so many cleared
abbrev pub masked_at : ℕ → Addr → Addr
masked_at count (V4 octets) = V4 (kept_octets count octets)
masked_at count (V6 octets) = V6 (kept_octets count octets)

-- the length for the family of the address, of one for IPv4 and one for IPv6
abbrev pub len_for : ℕ → ℕ → Addr → ℕ
len_for v4 v6 (V4 octets) = v4
len_for v4 v6 (V6 octets) = v6

-- the address under the length for its family
abbrev pub masked_of : ℕ → ℕ → Addr → Addr
masked_of v4 v6 addr = masked_at (len_for v4 v6 addr) addr

-- the prefix of an address: its bits past the length are cleared
abbrev pub prefix_of : ℕ → Addr → Prefix
prefix_of len addr = record { network = masked_at len addr; len = len }

-- a length within the family, and all bits past it 0
pub record IsPrefix (prefix : Prefix) : Type 0 where
  pub within : prefix.len ≤ width prefix.network
  pub cleared : (k : ℕ) → prefix.len ≤ k → bit_of (octets_of prefix.network) k ≡ 0

-- the prefix of so many bits, where the family has as many
abbrev pub prefix_within : ℕ → Addr → Option Prefix
prefix_within len addr = if nat_le len (width addr) then Some (prefix_of len addr) else None

-- the prefix covers the addresses of its family that agree with it in its first bits
abbrev pub Covers : Prefix → Addr → Type 0
Covers prefix addr = OneFamily (SameBits prefix.len) prefix.network addr

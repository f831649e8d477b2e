-- The keys under which masks are filed.
use Rattle.std.specs.Prelude.{◌≡◌, ℕ, ◌+◌, ◌-◌, ◌*◌, ◌<◌, nat_lt, List, [], ◌∷◌, length, slice_index, if◌then◌else◌}
use Rattle.lb_wire.specs.declared.addr.Addr.{Addr}
use Rattle.lb_wire.specs.declared.addr.Addr.TheVariants.{V4, V6}
use Rattle.lb_masks.specs.Bits.{octets_of}
use Rattle.lb_masks.specs.Mask.{Prefix, IsPrefix, Covers, width}

-- the kind of a mask is its family and its length in one number: 0 to 32 for IPv4, 33 to 161 for IPv6
abbrev pub kind_at : Addr → ℕ → ℕ
kind_at (V4 octets) len = len
kind_at (V6 octets) len = 33 + len

-- the key of a mask: its kind, and the octets of its network
abbrev pub key_of : Prefix → List ℕ
key_of mask = kind_at mask.network mask.len ∷ octets_of mask.network

-- the mask of a key
abbrev pub mask_of : List ℕ → Prefix
mask_of [] = record { network = V4 []; len = 0 }
mask_of (kind ∷ octets) = if nat_lt kind 33 then record { network = V4 octets; len = kind } else record { network = V6 octets; len = kind - 33 }

-- the address has octets, each below 256, as many as its family wants
pub record HasOctets (addr : Addr) : Type 0 where
  pub small : (i : ℕ) → slice_index (octets_of addr) i < 256
  pub sized : 8 * length (octets_of addr) ≡ width addr

-- a mask in octets
pub record IsMask (mask : Prefix) : Type 0 where
  pub is_prefix : IsPrefix mask
  pub octets : HasOctets mask.network

-- a key of a mask
pub record IsKey (key : List ℕ) : Type 0 where
  pub mask : Prefix
  pub is_mask : IsMask mask
  pub is : key ≡ key_of mask

-- the key is that of a mask of this kind that covers the address
pub record IsKeyOver (kind : ℕ) (addr : Addr) (key : List ℕ) : Type 0 where
  pub mask : Prefix
  pub is_mask : IsMask mask
  pub own : kind ≡ kind_at mask.network mask.len
  pub covers : Covers mask addr
  pub is : key ≡ key_of mask

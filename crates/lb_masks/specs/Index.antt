-- Masks with ranks, as they are filed.
use Rattle.std.specs.Prelude.{◌≡◌, ◌⊎◌, ◌↔◌, ℕ, List, Contains}
use Rattle.std.specs.declared.cmp.Ordering.{Ordering}
use Rattle.std.specs.List.Sorted.{IsStrictlySortedBy}
use Rattle.lb_wire.specs.declared.addr.Addr.{Addr}
use Rattle.lb_masks.specs.Mask.{Prefix, Covers}
use Rattle.lb_index_ranks.specs.declared.filed.Filed.{Filed}
use Rattle.lb_index_ranks.specs.Filed.{filed_at, filed_cmp}
use Rattle.lb_masks.specs.Key.{key_of, mask_of}

-- a rank that is filed under a mask
pub record Pair : Type 0 where
  pub mask : Prefix
  pub rank : ℕ

abbrev pub pair_of : Prefix → ℕ → Pair
pair_of mask rank = record { mask = mask; rank = rank }

-- a kept pair as contracts see it
abbrev pub shown : Filed → Pair
shown filed = pair_of (mask_of filed.key) filed.rank

-- a pair as it is kept
abbrev pub kept_at : Pair → Filed
kept_at pair = filed_at (key_of pair.mask) pair.rank

-- by mask, IPv4 first, then by length, and then by the octets of the network; then by rank
abbrev pub pair_cmp : Pair → Pair → Ordering
pair_cmp a b = filed_cmp (kept_at a) (kept_at b)

-- each pair stands before those after it: so none is there twice
abbrev pub ArePairsInOrder : List Pair → Type 0
ArePairsInOrder pairs = IsStrictlySortedBy pair_cmp pairs

-- the same pairs are there
abbrev pub HaveSame : List Pair → List Pair → Type 0
HaveSame a b = (p : Pair) → Contains a p ↔ Contains b p

-- the rank is filed under a mask that covers the address (RFC 4291 section 2.3, RFC 4632 section 3.1)
abbrev pub IsFiledCovering : List Pair → Addr → ℕ → Type 0
IsFiledCovering pairs addr rank = (mask : Prefix) × Contains pairs (pair_of mask rank) × Covers mask addr

-- the pairs with one more
abbrev pub IsFiledWith : List Pair → Pair → List Pair → Type 0
IsFiledWith old pair new = (p : Pair) → Contains new p ↔ ((p ≡ pair) ⊎ Contains old p)

-- the pairs but for one
abbrev pub IsFiledWithout : List Pair → Pair → List Pair → Type 0
IsFiledWithout old pair new = (p : Pair) → Contains new p ↔ ((p ≡ pair → ⊥) × Contains old p)

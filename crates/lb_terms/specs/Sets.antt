-- Names under a set of names, and addresses under a group of masks, as tests.
use Rattle.std.specs.Prelude.{ℕ, Bool, false, ◌==◌, List}
use Rattle.std.specs.List.{ends_with, list_all, list_any, range_with_len}
use Rattle.std.specs.Str.{bytes_eq}
use Rattle.lb_name.specs.Name.{lower_name}
use Rattle.lb_masks.specs.Bits.{bit_of}
use Rattle.lb_masks.specs.Mask.{Prefix}
use Rattle.lb_wire.specs.declared.addr.Addr.{Addr}
use Rattle.lb_wire.specs.declared.addr.Addr.TheVariants.{V4, V6}

-- the first name is the second or stands below it: its last labels are the second's, without regard to case
-- (RFC 1034 section 3.1)
abbrev pub is_under : List (List ℕ) → List (List ℕ) → Bool
is_under name suffix = ends_with bytes_eq (lower_name name) (lower_name suffix)

-- the name is one of the set or stands below one
abbrev pub in_suffixes : List (List (List ℕ)) → List (List ℕ) → Bool
in_suffixes suffixes name = list_any (is_under name) suffixes

-- the first so many bits are equal
abbrev pub same_bits : ℕ → List ℕ → List ℕ → Bool
same_bits count a b = list_all (λ k. bit_of a k == bit_of b k) (range_with_len 0 count)

-- the first so many bits of two addresses of one family are equal
abbrev pub same_front : ℕ → Addr → Addr → Bool
same_front count (V4 a) (V4 b) = same_bits count a b
same_front count (V6 a) (V6 b) = same_bits count a b
same_front count (V4 a) (V6 b) = false
same_front count (V6 a) (V4 b) = false

-- the prefix covers the addresses of its family that agree with it in its first bits (RFC 4632 section 3.1)
abbrev pub covers : Addr → Prefix → Bool
covers addr prefix = same_front prefix.len prefix.network addr

-- one mask of the group covers the address
abbrev pub in_group : List Prefix → Addr → Bool
in_group masks addr = list_any (covers addr) masks

-- The names that an operator gives to servers and pools.
use Rattle.std.specs.Prelude.{ℕ, Bool, ◌==◌, ◌&&◌, ◌||◌, nat_le, nat_lt, List, length, slice_index}
use Rattle.std.specs.List.{list_all}
use Rattle.std.specs.Char.{is_ascii_alphabetic, is_ascii_alphanumeric}

-- the most bytes of a name
abbrev pub max_ident : ℕ
max_ident = 63

-- a byte that may stand in a name: an ASCII letter, a digit, `-` or `_`
abbrev pub is_ident_byte : ℕ → Bool
is_ident_byte b = is_ascii_alphanumeric b || b == 45 || b == 95

-- a name: 1 to 63 such bytes, the first of them a letter
abbrev pub is_ident : List ℕ → Bool
is_ident text = nat_lt 0 (length text) && nat_le (length text) max_ident && is_ascii_alphabetic (slice_index text 0) && list_all is_ident_byte text

-- Numbers in texts.
use Rattle.std.specs.Prelude.{ℕ, ◌==◌, nat_lt, nat_le, Bool, ◌&&◌, if◌then◌else◌, Option, Some, None, List, length, slice_index}
use Rattle.std.specs.List.{list_all}
use Rattle.std.specs.Char.{is_digit}
use Rattle.std.specs.Str.Parse.{digits_value}

-- one digit or more, and nothing else
abbrev pub is_numeral : ℕ → List ℕ → Bool
is_numeral radix text = nat_lt 0 (length text) && list_all (λ b. is_digit b radix) text

-- the number that digits spell, where it is not over the most
abbrev pub number_up_to : ℕ → ℕ → List ℕ → Option ℕ
number_up_to radix most text =
    if is_numeral radix text && nat_le (digits_value radix text) most then Some (digits_value radix text) else None

-- a zero stands before a digit
abbrev pub has_leading_zero : List ℕ → Bool
has_leading_zero text = nat_lt 1 (length text) && slice_index text 0 == 48

-- a decimal number 0 to 255 with no leading zero
abbrev pub decimal_octet : List ℕ → Option ℕ
decimal_octet text = if has_leading_zero text then None else number_up_to 10 255 text

-- one to four hexadecimal digits
abbrev pub group : List ℕ → Option ℕ
group text = if nat_lt 4 (length text) then None else number_up_to 16 65535 text

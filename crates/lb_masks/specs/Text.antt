-- Addresses and masks as texts (RFC 4291 sections 2.2 and 2.3, RFC 4632 section 3.1).
use Rattle.std.specs.Prelude.{ℕ, ◌+◌, ◌-◌, ◌==◌, nat_le, ◌&&◌, if◌then◌else◌, Option, Some, None, option_map, option_and_then, Result, Ok, Err, List, [], ◌∷◌, ◌++◌, length, take, drop, replicate, slice_index}
use Rattle.std.specs.Option.{option_or}
use Rattle.lb_wire.specs.declared.addr.Addr.{Addr}
use Rattle.lb_wire.specs.declared.addr.Addr.TheVariants.{V4, V6}
use Rattle.lb_masks.specs.Mask.{Prefix, width, prefix_of}
use Rattle.lb_masks.specs.Number.{number_up_to}
use Rattle.lb_masks.specs.Form.{before, behind, spelled}
use Rattle.lb_masks.specs.declared.form.Form.TheVariants.{Dotted, Colons}
use Rattle.lb_masks.specs.declared.fault.MaskFault.{MaskFault}
use Rattle.lb_masks.specs.declared.fault.MaskFault.TheVariants.{BadAddress, BadLength}

-- four octets are an IPv4 address
abbrev pub four : List ℕ → Option Addr
four octets = if length octets == 4 then Some (V4 octets) else None

-- sixteen octets are an IPv6 address
abbrev pub sixteen : List ℕ → Option Addr
sixteen octets = if length octets == 16 then Some (V6 octets) else None

-- four decimal numbers between dots
abbrev pub v4_of : List ℕ → Option Addr
v4_of text = option_and_then four (spelled Dotted text)

-- the place of the first `::`
abbrev pub gap_place : List ℕ → Option ℕ
gap_place [] = None
gap_place (b ∷ text) = if b == 58 && slice_index text 0 == 58 then Some 0 else option_map (λ place. place + 1) (gap_place text)

-- the octets of the groups on a side of `::`, where nothing may stand too
abbrev pub side : List ℕ → Option (List ℕ)
side [] = Some []
side (b ∷ text) = spelled Colons (b ∷ text)

-- octets with zeros between them, two or more, so that they are sixteen
abbrev pub filled : Option (List ℕ) → Option (List ℕ) → Option Addr
filled None b = None
filled (Some a) None = None
filled (Some a) (Some b) =
    if nat_le (length a + length b) 14 then Some (V6 (a ++ replicate (16 - length a - length b) 0 ++ b)) else None

-- groups between colons: eight, or fewer with one `::` in the place of the others (section 2.2)
abbrev pub v6_at : List ℕ → Option ℕ → Option Addr
v6_at text None = option_and_then sixteen (spelled Colons text)
v6_at text (Some place) = filled (side (take place text)) (side (drop (place + 2) text))

abbrev pub v6_of : List ℕ → Option Addr
v6_of text = v6_at text (gap_place text)

-- the address that a text spells
abbrev pub addr_of_text : List ℕ → Option Addr
addr_of_text text = option_or (v4_of text) (v6_of text)

-- the prefix of this length, where the text of a length spells one
abbrev pub with_length : Addr → Option ℕ → Result Prefix MaskFault
with_length addr None = Err BadLength
with_length addr (Some len) = Ok (prefix_of len addr)

-- the prefix of an address and the text after a `/`; with no `/` all bits count
abbrev pub with_digits : Option Addr → Option (List ℕ) → Result Prefix MaskFault
with_digits None digits = Err BadAddress
with_digits (Some addr) None = Ok (prefix_of (width addr) addr)
with_digits (Some addr) (Some digits) = with_length addr (number_up_to 10 (width addr) digits)

-- the mask that a text spells: an address, or an address, `/` and a decimal length of at most its bits
abbrev pub mask_of_text : List ℕ → Result Prefix MaskFault
mask_of_text text = with_digits (addr_of_text (before 47 text)) (behind 47 text)

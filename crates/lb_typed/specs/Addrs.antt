-- Addresses as they are typed.
use Rattle.std.specs.Prelude.{◌≡◌, ℕ, ◌==◌, Bool, true, not, List, [], ◌∷◌, ◌++◌}
use Rattle.std.specs.List.{list_all}
use Rattle.std.specs.Fmt.{decimal}
use Rattle.hex.specs.Hex.{IsBytes, encode_lower}
use Rattle.lb_wire.specs.declared.addr.Addr.{Addr}
use Rattle.lb_masks.specs.Bits.{octets_of}
use Rattle.lb_command.specs.Values.{addr_of}
use Rattle.lb_typed.specs.Words.{Types}

-- octets as decimal numbers with dots between them
abbrev pub dotted : List ℕ → List ℕ
dotted [] = []
dotted (octet ∷ []) = decimal octet
dotted (octet ∷ next ∷ octets) = decimal octet ++ 46 ∷ dotted (next ∷ octets)

-- pairs of octets as four hexadecimal digits each, with colons between them
abbrev pub grouped : List ℕ → List ℕ
grouped [] = []
grouped (high ∷ []) = []
grouped (high ∷ low ∷ []) = encode_lower (high ∷ low ∷ [])
grouped (high ∷ low ∷ next ∷ octets) = encode_lower (high ∷ low ∷ []) ++ 58 ∷ grouped (next ∷ octets)

-- a byte is another one than the mark
abbrev pub is_other : ℕ → ℕ → Bool
is_other mark b = not (b == mark)

-- a word that says this address, and has no `/`
pub record TypesAddr (addr : Addr) (text : List ℕ) : Type 0 where
  pub types : Types addr_of addr text
  pub no_slash : list_all (is_other 47) text ≡ true

-- octets below 256
abbrev pub AreOctets : Addr → Type 0
AreOctets addr = IsBytes (octets_of addr)

-- The addresses of a spoofed answer, as they are stored: in 8 places, of which those past the count hold no address.
use Rattle.std.specs.Prelude.{◌≡◌, ℕ, ◌-◌, ◌≤◌, List, [], ◌∷◌, ◌++◌, length, replicate, take}
use Rattle.lb_wire.specs.declared.addr.Addr.{Addr}
use Rattle.lb_wire.specs.declared.addr.Addr.TheVariants.{V4}

-- what stands where there is no address
abbrev pub blank : Addr
blank = V4 (0 ∷ 0 ∷ 0 ∷ 0 ∷ [])

-- the 8 places of so many addresses
abbrev pub padded : List Addr → List Addr
padded addrs = addrs ++ replicate (8 - length addrs) blank

-- 1 to 8 of the places are used, and the others are blank
pub record IsAddrs (items : List Addr) (count : ℕ) : Type 0 where
  pub some : 1 ≤ count
  pub few : count ≤ 8
  pub used : length (take count items) ≡ count
  pub places : padded (take count items) ≡ items

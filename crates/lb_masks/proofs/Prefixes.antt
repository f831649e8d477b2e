-- Addresses with the bits past a length cleared.
use Rattle.std.proofs.Common.{◌≡◌, ℕ, ◌≤◌, refl}
use Rattle.lb_wire.specs.declared.addr.Addr.{Addr}
use Rattle.lb_wire.specs.declared.addr.Addr.TheVariants.{V4, V6}
use Rattle.lb_masks.specs.Bits.{octets_of, bit_of, KeepsBits, OneFamily}
use Rattle.lb_masks.specs.Mask.{width}

-- what keeps the first bits has no bit past them
pub no_bit_past : (count : ℕ) (old new : Addr) → OneFamily (KeepsBits count) old new → (k : ℕ) → count ≤ k → bit_of (octets_of new) k ≡ 0
no_bit_past count (V4 a) (V4 b) keeps = keeps.cleared
no_bit_past count (V6 a) (V6 b) keeps = keeps.cleared
no_bit_past count (V4 a) (V6 b) keeps = absurd keeps
no_bit_past count (V6 a) (V4 b) keeps = absurd keeps

-- and is of the same family
pub same_width : (count : ℕ) (old new : Addr) → OneFamily (KeepsBits count) old new → width new ≡ width old
same_width count (V4 a) (V4 b) keeps = refl
same_width count (V6 a) (V6 b) keeps = refl
same_width count (V4 a) (V6 b) keeps = absurd keeps
same_width count (V6 a) (V4 b) keeps = absurd keeps

use Rattle.std.proofs.Common.{arith}
use Rattle.lb_masks.proofs.Prefixes.{no_bit_past, same_width}
use Rattle.lb_masks.proofs.mask.Mask.under.Goals as goal

pub invariant_of-result : goal.invariant_of-result
invariant_of-result c = record {
  within = omega (arith, same_width _ _ _ c.first_bits.ensures.bits);
  cleared = no_bit_past _ _ _ c.first_bits.ensures.bits;
}

use Rattle.std.proofs.Common.{sym, ◌∙◌, arith}
use Rattle.lb_masks.proofs.KeepsBits.{keeps_bits, kept_whole, put_kept}
use Rattle.lb_masks.proofs.bits.keep_bits.Goals as goal

pub returns-then-whole-octets-clause-octets : goal.returns-then-whole-octets-clause-octets
returns-then-whole-octets-clause-octets c = c.copy_from_slice.ensures.after ∙ sym (kept_whole c.args.octets.now c.args.count (omega arith))

pub returns-clause-octets : goal.returns-clause-octets
returns-clause-octets c =
    put_kept c.args.octets.now _ _ c.args.count _ (omega arith) (λ i. omega (arith, c.type_inv.octets i)) c.copy_from_slice-2.ensures.after c.requires c.kept_octet.ensures

pub returns-clause-bits : goal.returns-clause-bits
returns-clause-bits c = rw (returns-clause-octets c) (keeps_bits c.args.count c.args.octets.now)

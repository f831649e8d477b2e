use Rattle.std.proofs.Common.{◌+◌, List, ℕ, length, Some, refl, sym, ◌∙◌, ap, arith}
use Rattle.std.proofs.lemmas.Bool.{cond-true, le-leb}
use Rattle.lb_wire.specs.declared.addr.Addr.TheVariants.{V6}
use Rattle.lb_masks.proofs.Gaps.{over_zeros}
use Rattle.lb_masks.proofs.address.filled.Goals as goal

pub returns : goal.returns
returns c =
    ap (λ (octets : List ℕ). Some (V6 octets)) (over_zeros c.args.before.now c.args.behind.now _ _ _ c.copy_from_slice.ensures.after c.copy_from_slice-2.ensures.after refl (omega arith))
    ∙ sym (cond-true _ _ _ (le-leb (length c.args.before.now + length c.args.behind.now) 14 (omega arith)))

use Rattle.lb_typed.proofs.Masks.{same_mask}
use Rattle.lb_typed.proofs.addrs.law_of_mask.Goals as goal

pub returns : goal.returns
returns c =
    let at = c.network-network.ensures.address in
    let len = c.length-length.ensures.length in
    same_mask c.args.mask.now c.min.result c.masked-kept.result (rw len at c.min.ensures) (rw len at c.length-length.ensures.within) (rw (at, len) at c.masked-kept.ensures.value) (rw (at, len) at c.masked-kept.ensures.bits)
    (rw at at c.law_of_addr.ensures) c.law_of_addr-2.ensures (rw at at c.network-network.ensures.cleared)

use Rattle.lb_masks.proofs.Covered.{key_over}
use Rattle.lb_masks.proofs.key.key_over.Goals as goal

pub returns-clause-some : goal.returns-clause-some
returns-clause-some c =
    key_over c.args.kind c.in_ok-length.length c.args.addr.now c.network_of-network.result c.key_at.result c.in_ok-length.ensures.kind c.in_ok-length.ensures.within c.network_of-network.ensures (record { small = c.has_octets.ensures.small; sized = c.has_octets.ensures.sized }) c.key_at.ensures

use Rattle.std.proofs.Common.{ap, sym, subst, ◌∙◌}
use Rattle.lb_wire.specs.declared.addr.Addr.{Addr}
use Rattle.lb_masks.specs.Bits.{bit_of, octets_of}
use Rattle.lb_masks.specs.Key.{HasOctets}
use Rattle.lb_masks.proofs.key.key_of.Goals as goal

pub returns-clause-mask : goal.returns-clause-mask
returns-clause-mask c = record {
  is_prefix = record {
    within = c.kind_of.ensures.within;
    cleared = λ k low. ap (λ (a : Addr). bit_of (octets_of a) k) (sym c.network-network.ensures.address) ∙ c.network-network.ensures.cleared k low;
  };
  octets = subst (λ (a : Addr). HasOctets a) c.network-network.ensures.address (record { small = c.has_octets.ensures.small; sized = c.has_octets.ensures.sized });
}

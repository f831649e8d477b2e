use Rattle.std.proofs.Common.{◌+◌, ◌<◌, ◌^◌, ℕ, length, sym, ap, subst, ◌∙◌}
use Rattle.lb_index_ring.specs.Ring.{next_of}
use Rattle.lb_index_ring.proofs.Rings.{length_trail}
use Rattle.lb_index_ring.proofs.ring.Ring.law_of_slots.Goals as goal

pub returns-clause-room : goal.returns-clause-room
returns-clause-room c =
    let count = sym (length_trail (next_of c.self.inside.links.items) (next_of c.self.inside.links.items 0) c.self.inside.len) ∙ ap length c.self.view_is in
    subst (λ (n : ℕ). n + 1 < 2 ^ 64) count c.self.invariant.small

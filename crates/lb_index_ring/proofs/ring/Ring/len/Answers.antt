use Rattle.std.proofs.Common.{length, sym, ap, ◌∙◌}
use Rattle.lb_index_ring.specs.Ring.{next_of}
use Rattle.lb_index_ring.proofs.Rings.{length_trail}
use Rattle.lb_index_ring.proofs.ring.Ring.len.Goals as goal

pub returns : goal.returns
returns c = sym (length_trail (next_of c.self.inside.links.items) (next_of c.self.inside.links.items 0) c.self.inside.len) ∙ ap length c.self.view_is

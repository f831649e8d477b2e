use Rattle.std.proofs.Common.{◌≡◌, true, ap, ◌∙◌}
use Rattle.lb_index_ring.specs.Ring.{after, has, slots_of}
use Rattle.lb_index_ring.proofs.Rings.{next_is}
use Rattle.lb_index_ring.proofs.ring.Ring.next.Goals as goal

pub returns : goal.returns
returns c =
    let is : has c.args.slot (slots_of c.self.inside.links.items c.self.inside.len) ≡ true = ap (has c.args.slot) c.self.view_is ∙ c.requires in
    c.next_in.ensures ∙ next_is c.self.inside.links.items c.self.inside.len c.args.slot c.self.invariant is ∙ ap (after c.args.slot) c.self.view_is

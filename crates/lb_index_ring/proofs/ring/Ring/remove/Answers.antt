use Rattle.std.proofs.Common.{◌≡◌, ◌<◌, ◌+◌, ◌-◌, true, ap, ◌∙◌, arith}
use Rattle.lb_index_ring.specs.Ring.{has, slots_of, without}
use Rattle.lb_index_ring.proofs.Paths.{has_passes}
use Rattle.lb_index_ring.proofs.Rings.{next_within, prev_within, removed, has_one}
use Rattle.lb_index_ring.proofs.ring.Ring.remove.Goals as goal

pub unlink-requires-clause-within : goal.unlink-requires-clause-within
unlink-requires-clause-within c =
    let is : has c.args.slot (slots_of c.self.inside.links.items c.self.inside.len) ≡ true = ap (has c.args.slot) c.self.view_is ∙ c.requires in
    has_passes _ c.args.slot _ is c.self.invariant.within

pub unlink-requires-clause-prev : goal.unlink-requires-clause-prev
unlink-requires-clause-prev c =
    let is : has c.args.slot (slots_of c.self.inside.links.items c.self.inside.len) ≡ true = ap (has c.args.slot) c.self.view_is ∙ c.requires in
    prev_within _ _ c.args.slot c.self.invariant is

pub unlink-requires-clause-next : goal.unlink-requires-clause-next
unlink-requires-clause-next c =
    let is : has c.args.slot (slots_of c.self.inside.links.items c.self.inside.len) ≡ true = ap (has c.args.slot) c.self.view_is ∙ c.requires in
    next_within _ _ c.args.slot c.self.invariant is

pub invariant_of-self : goal.invariant_of-self
invariant_of-self c =
    let is : has c.args.slot (slots_of c.self.inside.links.items c.self.inside.len) ≡ true = ap (has c.args.slot) c.self.view_is ∙ c.requires in
    let some : 0 < c.self.inside.len = has_one c.self.inside.links.items c.self.inside.len c.args.slot is in
    let less : c.self.inside.len - 1 + 1 ≡ c.self.inside.len = omega arith in
    let both = removed c.self.inside.links.items c.unlink.new.links.items c.self.inside.len (c.self.inside.len - 1) c.args.slot c.self.invariant is c.unlink.ensures.next c.unlink.ensures.prev c.unlink.ensures.len less in
    both.1

pub returns : goal.returns
returns c =
    let is : has c.args.slot (slots_of c.self.inside.links.items c.self.inside.len) ≡ true = ap (has c.args.slot) c.self.view_is ∙ c.requires in
    let some : 0 < c.self.inside.len = has_one c.self.inside.links.items c.self.inside.len c.args.slot is in
    let less : c.self.inside.len - 1 + 1 ≡ c.self.inside.len = omega arith in
    let both = removed c.self.inside.links.items c.unlink.new.links.items c.self.inside.len (c.self.inside.len - 1) c.args.slot c.self.invariant is c.unlink.ensures.next c.unlink.ensures.prev c.unlink.ensures.len less in
    both.0 ∙ ap (without c.args.slot) c.self.view_is

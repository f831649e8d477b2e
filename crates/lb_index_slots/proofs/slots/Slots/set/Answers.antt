use Rattle.std.proofs.Common.{List, Option, ap, ◌∙◌}
use Rattle.lb_index_slots.specs.declared.chunk.Cell.TheVariants.{Full}
use Rattle.lb_index_slots.specs.Slots.{get}
use Rattle.lb_index_slots.proofs.Links.{changed_updates, replaced, some_of}
use Rattle.lb_index_slots.proofs.slots.Slots.set.Goals as goal

pub invariant_of-self : goal.invariant_of-self
invariant_of-self g c =
    let fields = c.self.inside in
    let slot = c.args.slot in
    let held = some_of (get c.args.self.now slot) c.requires.there in
    let there = ap (λ (slots : List (List (Option g.row.T.Denot))). get slots slot)
    c.self.view_is ∙ held.1 in
    replaced fields.chunks.items c.fill.new.chunks.items fields.free slot held.0 c.args.value
    there c.fill.ensures c.self.invariant

pub returns : goal.returns
returns g c =
    let fields = c.self.inside in
    let slot = c.args.slot in
    let held = some_of (get c.args.self.now slot) c.requires.there in
    let there = ap (λ (slots : List (List (Option g.row.T.Denot))). get slots slot)
    c.self.view_is ∙ held.1 in
    rw (← c.self.view_is)
    (changed_updates fields.chunks.items c.fill.new.chunks.items slot held.0
    (Full c.args.value) there c.fill.ensures)

use Rattle.std.proofs.Common.{◌≡◌, ◌<◌, ◌/◌, length, true, refl, arith}
use Rattle.std.specs.Prelude.{slice_set}
use Rattle.lb_index_slots.specs.declared.chunk.Cell.TheVariants.{Free}
use Rattle.lb_index_slots.specs.Links.{cells_at}
use Rattle.lb_index_slots.proofs.Links.{cell_read, changed_updates, chunk_read, emptied, value_read}
use Rattle.lb_index_slots.proofs.slots.Slots.take.Goals as goal

pub invariant_of-self-2 : goal.invariant_of-self-2
invariant_of-self-2 g c =
    let fields = c.self.inside in
    let old = fields.chunks.items in
    let slot = c.args.slot in
    let chunk = c.in_ok-get_mut.field-0.now in
    let there = c.in_ok-get_mut.ensures.variant.0 (refl {a = true}) in
    let within : slot / 32 < length old = omega (arith, there, fields.chunks.ok.0) in
    let is : chunk ≡ cells_at old (slot / 32) =
    chunk_read old (slot / 32) chunk within c.in_ok-get_mut.ensures.value in
    emptied old (slice_set old (slot / 32) c.take.new.self) fields.free slot c.in_ok-value.value
    (value_read old slot chunk c.in_ok-value.value is c.in_ok-value.ensures.value)
    (cell_read old slot chunk c.take.new.self (Free fields.free) is c.in_ok-value.ensures.some)
    c.self.invariant

pub returns-clause-slots : goal.returns-clause-slots
returns-clause-slots g c =
    let fields = c.self.inside in
    let old = fields.chunks.items in
    let slot = c.args.slot in
    let chunk = c.in_ok-get_mut.field-0.now in
    let there = c.in_ok-get_mut.ensures.variant.0 (refl {a = true}) in
    let within : slot / 32 < length old = omega (arith, there, fields.chunks.ok.0) in
    let is : chunk ≡ cells_at old (slot / 32) =
    chunk_read old (slot / 32) chunk within c.in_ok-get_mut.ensures.value in
    rw (← c.self.view_is)
    (changed_updates old (slice_set old (slot / 32) c.take.new.self) slot c.in_ok-value.value
    (Free fields.free)
    (value_read old slot chunk c.in_ok-value.value is c.in_ok-value.ensures.value)
    (cell_read old slot chunk c.take.new.self (Free fields.free) is
    c.in_ok-value.ensures.some))

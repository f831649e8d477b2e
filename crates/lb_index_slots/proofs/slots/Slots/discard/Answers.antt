use Rattle.std.proofs.Common.{◌≡◌, ◌<◌, ◌/◌, ◌%◌, length, map, true, refl, arith}
use Rattle.std.specs.Prelude.{slice_set}
use Rattle.lb_index_slots.specs.declared.chunk.Cell.TheVariants.{Free}
use Rattle.lb_index_slots.specs.Links.{cells_at}
use Rattle.lb_index_slots.specs.Slots.{value_at, value_in}
use Rattle.lb_index_slots.proofs.Links.{cell_read, changed_updates, chunk_read, emptied, value_read, was_some}
use Rattle.lb_index_slots.proofs.slots.Slots.discard.Goals as goal

pub invariant_of-self-2 : goal.invariant_of-self-2
invariant_of-self-2 g c =
    let fields = c.self.inside in
    let old = fields.chunks.items in
    let slot = c.args.slot in
    let chunk = c.in-Some.chunk.now in
    let there = c.in-Some.ensures.variant.0 (refl {a = true}) in
    let within : slot / 32 < length old = omega (arith, there, fields.chunks.ok.0) in
    let is : chunk ≡ cells_at old (slot / 32) =
    chunk_read old (slot / 32) chunk within c.in-Some.ensures.value in
    let held = was_some (value_at (map value_in chunk) (slot % 32)) c.discard.result
    c.discard.ensures.value c.if-not-discard.false in
    emptied old (slice_set old (slot / 32) c.discard.new.self) fields.free slot held.0
    (value_read old slot chunk held.0 is held.1)
    (cell_read old slot chunk c.discard.new.self (Free fields.free) is
    c.if-not-discard.ensures.some)
    c.self.invariant

pub returns-clause-slots : goal.returns-clause-slots
returns-clause-slots g c =
    let fields = c.self.inside in
    let old = fields.chunks.items in
    let slot = c.args.slot in
    let chunk = c.in-Some.chunk.now in
    let there = c.in-Some.ensures.variant.0 (refl {a = true}) in
    let within : slot / 32 < length old = omega (arith, there, fields.chunks.ok.0) in
    let is : chunk ≡ cells_at old (slot / 32) =
    chunk_read old (slot / 32) chunk within c.in-Some.ensures.value in
    let held = was_some (value_at (map value_in chunk) (slot % 32)) c.discard.result
    c.discard.ensures.value c.if-not-discard.false in
    rw (← c.self.view_is)
    (changed_updates old (slice_set old (slot / 32) c.discard.new.self) slot held.0
    (Free fields.free) (value_read old slot chunk held.0 is held.1)
    (cell_read old slot chunk c.discard.new.self (Free fields.free) is
    c.if-not-discard.ensures.some))

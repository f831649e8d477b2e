use Rattle.std.proofs.Common.{List, Option, ◌∙◌, subst, sym}
use Rattle.lb_index_slots.specs.Links.{values}
use Rattle.lb_index_slots.specs.Slots.{IsEmpty}
use Rattle.lb_index_slots.proofs.Links.{filled, filled_updates, length_same, linked_empty, none_empty}
use Rattle.lb_index_slots.proofs.Links.{pushed, pushed_kept, pushed_updates}
use Rattle.lb_index_slots.proofs.slots.Slots.put.Goals as goal

pub invariant_of-self : goal.invariant_of-self
invariant_of-self g c =
    let fields = c.self.inside in
    filled fields.chunks.items c.fill.new.chunks.items fields.free c.in-Some.next c.args.value
    (sym c.freed.ensures ∙ c.in-Some.is) c.fill.ensures c.self.invariant

pub returns-in-Some-clause-free : goal.returns-in-Some-clause-free
returns-in-Some-clause-free g c =
    let fields = c.self.inside in
    let on = sym c.freed.ensures ∙ c.in-Some.is in
    rw (← c.self.view_is)
    (linked_empty fields.chunks.items fields.free c.in-Some.next on).none

pub returns-in-Some-clause-put : goal.returns-in-Some-clause-put
returns-in-Some-clause-put g c =
    let fields = c.self.inside in
    let on = sym c.freed.ensures ∙ c.in-Some.is in
    rw (← c.self.view_is)
    (filled_updates fields.chunks.items c.fill.new.chunks.items fields.free c.in-Some.next
    c.args.value on c.fill.ensures)

pub returns-in-Some-clause-tight : goal.returns-in-Some-clause-tight
returns-in-Some-clause-tight g c = λ slot empty.
    let fields = c.self.inside in
    let on = sym c.freed.ensures ∙ c.in-Some.is in
    rw (← c.self.view_is) (
      length_same fields.chunks.items c.fill.new.chunks.items fields.free _ c.fill.ensures,
      linked_empty fields.chunks.items fields.free c.in-Some.next on,
    )

pub invariant_of-self-2 : goal.invariant_of-self-2
invariant_of-self-2 g c =
    let fields = c.self.inside in
    pushed c.push.result fields.chunks.items c.push.new.chunks.items fields.free c.args.value
    c.push.ensures.added c.push.ensures.kept (sym c.freed.ensures ∙ c.in_default.is)
    c.push.ensures.few c.self.invariant

pub returns-clause-put : goal.returns-clause-put
returns-clause-put g c =
    rw (← c.self.view_is)
    (pushed_updates c.push.result c.self.inside.chunks.items c.push.new.chunks.items
    c.args.value c.push.ensures.added)

pub returns-clause-kept : goal.returns-clause-kept
returns-clause-kept g c =
    rw (← c.self.view_is)
    (pushed_kept c.push.result c.self.inside.chunks.items c.push.new.chunks.items
    c.push.ensures.kept)

pub returns-clause-tight : goal.returns-clause-tight
returns-clause-tight g c = λ slot empty.
    let fields = c.self.inside in
    let off = sym c.freed.ensures ∙ c.in_default.is in
    let seen : IsEmpty (values fields.chunks.items) slot =
    subst (λ (slots : List (List (Option g.row.T.Denot))). IsEmpty slots slot)
    (sym c.self.view_is) empty in
    absurd (none_empty fields.chunks.items fields.free c.self.invariant off slot seen)

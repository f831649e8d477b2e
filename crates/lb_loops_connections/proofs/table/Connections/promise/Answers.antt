use Rattle.std.proofs.Common.{rules, ◌≡◌, ◌+◌, ◌<◌, get_or, length, set, None, Some, refl, sym, subst, ◌∙◌}
use Rattle.std.proofs.lemmas.List.{get_or_read_under}
use Rattle.lb_loops_connections.proofs.AtPlaces.{puts_at}
use Rattle.lb_loops_connections.proofs.table.Connections.promise.Goals as goal
use Rattle.lb_loops_connections.specs.Table.{Table, firsts}
use Rattle.lb_loops_connections.specs.Writing.{Puts}

pub returns-in-Ok-clause-put : goal.returns-in-Ok-clause-put
returns-in-Ok-clause-put c =
    let old : Table = record { next = c.self.inside.last + 1; slots = c.self.inside.slots.items; refusals = firsts c.self.inside.refusals.items } in
    let new : Table = record old { slots = set old.slots c.place_of.result (Some c.touch.new.self) } in
    let fits : c.place_of.result < length old.slots = search rules in
    let was : get_or old.slots c.place_of.result None ≡ Some c.in-Some.connection = sym (get_or_read_under old.slots c.place_of.result (length old.slots) c.index_mut.result.now None c.index_mut.ensures.value fits refl) ∙ c.in-Some.is in
    subst (λ (z : Table). Puts c.args.number c.args.message.now z new) c.self.view_is
    (puts_at c.args.number c.place_of.result c.args.message.now old c.in-Some.connection c.promise.new.self c.touch.new.self c.place_of.ensures.0
    fits (search rules) was (search rules) c.in-Ok.ensures.promised c.in-Ok.ensures.owed c.promise.ensures.rest c.touch.ensures.rest (c.is_over.ensures.within c.if-is_over.false))

use Rattle.std.proofs.Common.{rules, ◌≡◌, ◌+◌, ◌<◌, get_or, length, set, None, Some, refl, sym, subst, ◌∙◌}
use Rattle.std.proofs.lemmas.List.{get_or_read_under}
use Rattle.lb_loops_connections.proofs.AtPlaces.{takes_at}
use Rattle.lb_loops_connections.proofs.table.Connections.drop_first.Goals as goal
use Rattle.lb_loops_connections.specs.Table.{IsFirst, Table, firsts}
use Rattle.lb_loops_connections.specs.Taking.{Takes}

pub returns : goal.returns
returns c = λ peer message first.
    let old : Table = record { next = c.self.inside.last + 1; slots = c.self.inside.slots.items; refusals = firsts c.self.inside.refusals.items } in
    let new : Table = record old { slots = set old.slots c.place_of.result (Some c.enqueue.new.self) } in
    let fits : c.place_of.result < length old.slots = search rules in
    let was : get_or old.slots c.place_of.result None ≡ Some c.in-Some.connection = sym (get_or_read_under old.slots c.place_of.result (length old.slots) c.index_mut.result.now None c.index_mut.ensures.value fits refl) ∙ c.in-Some.is in
    let is_first : IsFirst c.args.number peer message old = subst (IsFirst c.args.number peer message) (sym c.self.view_is) first in
    subst (λ (z : Table). Takes c.args.number message z new) c.self.view_is
    (takes_at c.args.number c.place_of.result old c.in-Some.connection c.drop_first.new.self c.enqueue.new.self peer message c.place_of.ensures.0 fits (search rules) was (search rules)
    c.drop_first.ensures.taken c.drop_first.ensures.owed c.drop_first.ensures.rest c.enqueue.ensures.rest is_first)

use Rattle.std.proofs.Common.{◌≡◌, Bool, Option, None, Some, List, is_some, sym, ap, subst, ◌∙◌}
use Rattle.std.specs.List.{find}
use Rattle.lb_table.specs.declared.entry.Entry.{Entry}
use Rattle.lb_table.specs.declared.entry.Waiting.{Waiting}
use Rattle.lb_table.specs.Held.{queries}
use Rattle.lb_table.specs.Index.{stands_at}
use Rattle.lb_table.specs.Place.{at_place}
use Rattle.lb_table.specs.Table.{entry_at, taken_at, waits_at}
use Rattle.lb_table.proofs.LastOf.{some_slot}
use Rattle.lb_table.proofs.Tells.{goes_is, none_entry, none_stands, none_taken, some_entry, table_went, taken_list}
use Rattle.lb_table.proofs.Without.{without_none}
use Rattle.lb_table.proofs.table.Table.discard.Goals as goal

pub invariant_of-self : goal.invariant_of-self
invariant_of-self c =
    let place = at_place c.args.server c.args.lane c.args.id in
    let none = none_stands (find (stands_at place) c.self.inside.line) (sym (c.take.ensures.slot c.self.inside.line c.self.invariant.index) ∙ c.in_default.is) in
    table_went c.self.inside.line c.self.inside.line c.self.inside.index c.take.new.self place c.self.invariant (sym (without_none (stands_at place) c.self.inside.line none)) (c.take.ensures.taken c.self.inside.line c.self.invariant.index c.self.invariant.apart)

pub returns-in_default-clause-was : goal.returns-in_default-clause-was
returns-in_default-clause-was c =
    let place = at_place c.args.server c.args.lane c.args.id in
    let none = none_stands (find (stands_at place) c.self.inside.line) (sym (c.take.ensures.slot c.self.inside.line c.self.invariant.index) ∙ c.in_default.is) in
    let nobody : None ≡ entry_at c.args.self.now place = subst (λ (xs : List Waiting). None ≡ entry_at xs place) c.self.view_is (sym (none_entry c.self.inside.line place none)) in
    ap (λ (o : Option Entry). is_some o) nobody

pub returns-in_default-clause-table : goal.returns-in_default-clause-table
returns-in_default-clause-table c =
    let place = at_place c.args.server c.args.lane c.args.id in
    let none = none_stands (find (stands_at place) c.self.inside.line) (sym (c.take.ensures.slot c.self.inside.line c.self.invariant.index) ∙ c.in_default.is) in
    subst (λ (xs : List Waiting). queries c.self.inside.line ≡ taken_at xs (waits_at place xs)) c.self.view_is (sym (none_taken c.self.inside.line place none))

pub invariant_of-self-2 : goal.invariant_of-self-2
invariant_of-self-2 c =
    let place = at_place c.args.server c.args.lane c.args.id in
    let found = some_slot (find (stands_at place) c.self.inside.line) c.in-Some.slot (sym (c.take.ensures.slot c.self.inside.line c.self.invariant.index) ∙ c.in-Some.is) in
    table_went c.self.inside.line c.discard.new.self c.self.inside.index c.take.new.self place c.self.invariant (c.discard.ensures ∙ goes_is c.self.inside.line place c.in-Some.slot found c.self.invariant.apart) (c.take.ensures.taken c.self.inside.line c.self.invariant.index c.self.invariant.apart)

pub returns-clause-was : goal.returns-clause-was
returns-clause-was c =
    let place = at_place c.args.server c.args.lane c.args.id in
    let found = some_slot (find (stands_at place) c.self.inside.line) c.in-Some.slot (sym (c.take.ensures.slot c.self.inside.line c.self.invariant.index) ∙ c.in-Some.is) in
    subst (λ (xs : List Waiting). is_some (Some (some_entry c.self.inside.line place c.in-Some.slot found).0) ≡ is_some (entry_at xs place)) c.self.view_is (ap (λ (o : Option Entry). is_some o) (some_entry c.self.inside.line place c.in-Some.slot found).1)

pub returns-clause-table : goal.returns-clause-table
returns-clause-table c =
    let place = at_place c.args.server c.args.lane c.args.id in
    let found = some_slot (find (stands_at place) c.self.inside.line) c.in-Some.slot (sym (c.take.ensures.slot c.self.inside.line c.self.invariant.index) ∙ c.in-Some.is) in
    subst (λ (xs : List Waiting). queries c.discard.new.self ≡ taken_at xs (waits_at place xs)) c.self.view_is (taken_list c.self.inside.line c.discard.new.self place c.in-Some.slot c.self.invariant.apart found c.discard.ensures)

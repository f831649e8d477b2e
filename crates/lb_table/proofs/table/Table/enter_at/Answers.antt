use Rattle.std.proofs.Common.{◌≡◌, false, Some, List, ℕ, option_map, refl, sym, ap, subst, ◌∙◌}
use Rattle.std.specs.List.{find}
use Rattle.std.specs.Option.{IsSome}
use Rattle.lb_table.specs.declared.entry.Waiting.{Waiting}
use Rattle.lb_table.specs.Held.{in_slot, queries, query_of, without_first}
use Rattle.lb_table.specs.Table.{entered, is_used}
use Rattle.lb_table.proofs.Helds.{given}
use Rattle.lb_table.proofs.IsLine.{came, went}
use Rattle.lb_table.proofs.Tells.{entered_list, is_free, room_kept, table_came, table_same}
use Rattle.lb_table.proofs.table.Table.enter_at.Goals as goal

pub invariant_of-self-in-Ok-add : goal.invariant_of-self-in-Ok-add
invariant_of-self-in-Ok-add c =
    let w : Waiting = c.args.waiting in
    let free = is_free c.self.inside.line c.args.waiting.place (subst (λ (xs : List Waiting). is_used xs c.args.waiting.place ≡ false) (sym c.self.view_is) c.requires) in
    table_came c.self.inside.line c.enter.new.self c.self.inside.index c.add.new.self c.in-Ok.slot w c.self.invariant free c.in-Ok.ensures.free c.in-Ok.ensures.entered (c.in-Ok-add.ensures.added c.self.inside.line w c.self.invariant.index refl free)

pub unwrap-requires : goal.unwrap-requires
unwrap-requires c =
    let w : Waiting = c.args.waiting in
    let found = ap (λ (l : List (ℕ × Waiting)). option_map query_of (find (in_slot c.in-Ok.slot) l)) c.in-Ok.ensures.entered ∙ ap (option_map query_of) (came c.self.inside.line c.in-Ok.slot w c.in-Ok.ensures.free) in
    subst IsSome (sym (c.remove.ensures.query ∙ found)) (given w)

pub invariant_of-self-in-Err-add : goal.invariant_of-self-in-Err-add
invariant_of-self-in-Err-add c =
    let w : Waiting = c.args.waiting in
    let back = c.remove.ensures.line ∙ ap (without_first (in_slot c.in-Ok.slot)) c.in-Ok.ensures.entered ∙ went c.self.inside.line c.in-Ok.slot w c.in-Ok.ensures.free in
    table_same c.self.inside.line c.remove.new.self c.self.inside.index c.add.new.self c.self.invariant back (c.in-Err-add.ensures.kept c.self.inside.line c.self.invariant.index)

pub returns-in-Ok-add-clause-entered : goal.returns-in-Ok-add-clause-entered
returns-in-Ok-add-clause-entered c =
    let w : Waiting = c.args.waiting in
    subst (λ (xs : List Waiting). queries c.enter.new.self ≡ entered xs c.args.waiting.place c.args.waiting.entry) c.self.view_is (entered_list c.self.inside.line c.enter.new.self c.in-Ok.slot w c.in-Ok.ensures.entered)

pub returns-in-Err-add-clause-back : goal.returns-in-Err-add-clause-back
returns-in-Err-add-clause-back c =
    let w : Waiting = c.args.waiting in
    let found = ap (λ (l : List (ℕ × Waiting)). option_map query_of (find (in_slot c.in-Ok.slot) l)) c.in-Ok.ensures.entered ∙ ap (option_map query_of) (came c.self.inside.line c.in-Ok.slot w c.in-Ok.ensures.free) in
    let some : Some c.unwrap.result ≡ Some w = sym c.unwrap.ensures ∙ c.remove.ensures.query ∙ found in
    let same : c.unwrap.result ≡ w = cc in
    let back = c.remove.ensures.line ∙ ap (without_first (in_slot c.in-Ok.slot)) c.in-Ok.ensures.entered ∙ went c.self.inside.line c.in-Ok.slot w c.in-Ok.ensures.free in
    (same, ap queries back ∙ c.self.view_is)

pub returns-in-Err-add-clause-room : goal.returns-in-Err-add-clause-room
returns-in-Err-add-clause-room c =
    let w : Waiting = c.args.waiting in
    let back = c.remove.ensures.line ∙ ap (without_first (in_slot c.in-Ok.slot)) c.in-Ok.ensures.entered ∙ went c.self.inside.line c.in-Ok.slot w c.in-Ok.ensures.free in
    room_kept c.self.inside.line c.remove.new.self c.law_of_line.ensures.room back

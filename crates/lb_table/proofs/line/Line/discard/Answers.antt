use Rattle.std.proofs.Common.{ℕ, List, option_map, sym, ap, subst, ◌∙◌}
use Rattle.std.specs.List.{find}
use Rattle.lb_table.specs.declared.entry.Waiting.{Waiting}
use Rattle.lb_table.specs.Held.{in_slot, query_of}
use Rattle.lb_table.specs.Line.{IsLine}
use Rattle.lb_table.proofs.IsLine.{deadline_got, none_went}
use Rattle.lb_table.proofs.line.Line.discard.Goals as goal

pub returns-in_default : goal.returns-in_default
returns-in_default c = none_went c.args.self.now c.args.slot (c.in_default.ensures ∙ ap (λ (l : List (ℕ × Waiting)). option_map query_of (find (in_slot c.args.slot) l)) c.self.view_is)

pub unmark-requires-clause-deadline : goal.unmark-requires-clause-deadline
unmark-requires-clause-deadline c = deadline_got (find (in_slot c.args.slot) c.self.inside.held) c.in-Some.waiting.now c.deadline-deadline.result c.in-Some.ensures c.deadline-deadline.ensures

pub invariant_of-self : goal.invariant_of-self
invariant_of-self c = subst (IsLine c.unmark.new.lasts) (sym c.discard.ensures) c.unmark.ensures

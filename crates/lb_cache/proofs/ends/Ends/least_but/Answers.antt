use Rattle.std.proofs.Common.{sym, ◌∙◌}
use Rattle.lb_cache.proofs.MarkOrder.{least_first, least_second, second_other}
use Rattle.lb_cache.proofs.ends.Ends.least_but.Goals as goal

pub returns-then-first-slot-clause-least : goal.returns-then-first-slot-clause-least
returns-then-first-slot-clause-least c = λ v s there other.
    least_first c.args.self.now.marks.keys c.next.new.self c.in_ok-first.field-0.now v s (sym c.iter-marks.ensures.rest ∙ c.in_ok-first.ensures.steps) c.iter-marks.ensures.ordered there

pub returns-clause-other : goal.returns-clause-other
returns-clause-other c = λ same.
    second_other c.args.self.now.marks.keys c.next.new.self c.next-2.new.self c.in_ok-first.field-0.now c.in_ok-second.field-0.now (sym c.iter-marks.ensures.rest ∙ c.in_ok-first.ensures.steps) c.in_ok-second.ensures.steps c.iter-marks.ensures.ordered
    (λ v w one two. c.requires.one v w (rw (sym c.if-first-slot.false) one) (rw (sym c.if-first-slot.false) two)) (same ∙ sym c.if-first-slot.false)

pub returns-clause-least : goal.returns-clause-least
returns-clause-least c = λ v s there other.
    least_second c.args.self.now.marks.keys c.next.new.self c.next-2.new.self c.in_ok-first.field-0.now c.in_ok-second.field-0.now v s (sym c.iter-marks.ensures.rest ∙ c.in_ok-first.ensures.steps) c.in_ok-second.ensures.steps c.iter-marks.ensures.ordered there (λ e. other (e ∙ c.if-first-slot.false))

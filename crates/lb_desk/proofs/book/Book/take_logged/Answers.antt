use Rattle.std.proofs.Common.{List, Some, [], ap, arith, rules, subst, sym, option_map, ◌++◌, ◌+◌, ◌<◌, ◌∙◌, ◌∷◌, ◌≡◌}
use Rattle.std.proofs.Math.Logic.{∥∥₁_map}
use Rattle.lb_desk.specs.declared.entry.LogEntry.{LogEntry}
use Rattle.lb_desk.specs.declared.spare.EntryRoom.{EntryRoom}
use Rattle.lb_desk.specs.Book.{Counted, Keeps}
use Rattle.lb_desk.specs.Entry.{entry}
use Rattle.lb_desk.proofs.Runs.{counted_grown, keeps_grown, seated_grown}
use Rattle.lb_desk.proofs.book.Book.take_logged.Goals as goal

pub invariant_of-self-inside : goal.invariant_of-self-inside
invariant_of-self-inside g c =
    let b = c.self.inside in
    let within : b.count < b.limit = subst (λ v. v.count < v.limit) (sym c.self.view_is) c.requires.logs in
    let ready = subst (λ v. v.ready ≡ Some c.args.event) (sym c.self.view_is) c.requires.ready in
    let spare : b.spare ≡ Some c.in-Some.field-0 = sym c.take.ensures.value ∙ c.in-Some.is in
    let told : Some c.in-Some.field-0.event ≡ Some c.args.event = ap (option_map (λ (s : EntryRoom). s.event)) (sym spare) ∙ ready in
    let event : c.in-Some.field-0.event ≡ c.args.event = search rules in
    let log : c.push_reserved.new.self.items ≡ b.log.items ++ entry c.args.seat c.args.event c.step_counted-answer.result ∷ [] =
    c.push_reserved.ensures.items ∙ ap (λ e. b.log.items ++ e ∷ []) (ap (λ x. entry c.args.seat x c.copied.result) event ∙ ap (entry c.args.seat c.args.event) c.copied.ensures)
    in
    let filled = b.filled in
    let so_far = b.counted in
    let raised = c.count_call.ensures.count in
    let total = c.count_call.ensures.total in
    let len = c.push_reserved.ensures.len in
    let grown : ∥ Keeps g.J.Naming.opening b.limit (b.count + 1) c.push_reserved.new.self.items c.step_counted-answer.new.self ∥₁ =
    subst (λ (l : List LogEntry). ∥ Keeps g.J.Naming.opening b.limit (b.count + 1) l c.step_counted-answer.new.self ∥₁) (sym log)
    (∥∥₁_map b.told
    (keeps_grown g.J.Naming.opening b.limit b.count b.log.items b.balancer c.step_counted-answer.new.self c.args.seat c.args.event c.step_counted-answer.result within c.step_counted-answer.ensures.answers))
    in
    let kept = subst (λ n. ∥ Keeps g.J.Naming.opening b.limit n c.push_reserved.new.self.items c.step_counted-answer.new.self ∥₁) (sym raised) grown in
    let tallied =
    subst (λ n. ∥ Counted g.J.Naming.opening n c.step_counted-answer.new.self c.step_counted-answer.new.tally ∥₁) (sym raised)
    (∥∥₁_map b.tallied (counted_grown g.J.Naming.opening b.count b.balancer c.step_counted-answer.new.self b.tally c.step_counted-answer.new.tally c.args.event c.step_counted-answer.result c.step_counted-answer.new.noted c.step_counted-answer.ensures.answers c.step_counted-answer.ensures.noted c.step_counted-answer.ensures.counts c.step_counted-answer.ensures.numbers c.step_counted-answer.ensures.before))
    in
    let seats = seated_grown _ _ _ _ b.seated c.requires.seat c.push_reserved.ensures.items in
    (omega arith, (b.limited, (omega arith, (seats, (search rules, (kept, (tallied, tt)))))))

pub returns-clause-counts : goal.returns-clause-counts
returns-clause-counts g c =
    rw (← c.self.view_is)
    (record { raised = c.step_counted-answer.ensures.counts; numbers = (c.step_counted-answer.new.noted, c.step_counted-answer.ensures.noted, c.step_counted-answer.ensures.numbers) })

pub returns-clause-noted : goal.returns-clause-noted
returns-clause-noted g c = rw (← c.self.view_is) c.step_counted-answer.ensures.noted

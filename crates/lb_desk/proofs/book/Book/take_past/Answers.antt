use Rattle.std.proofs.Common.{arith, subst, sym, ◌≤◌}
use Rattle.std.proofs.Math.Logic.{∥∥₁_map}
use Rattle.lb_desk.specs.Book.{Counted, Keeps}
use Rattle.lb_desk.proofs.Runs.{counted_grown, keeps_past}
use Rattle.lb_desk.proofs.book.Book.take_past.Goals as goal

pub invariant_of-self-inside : goal.invariant_of-self-inside
invariant_of-self-inside g c =
    let b = c.self.inside in
    let past : b.limit ≤ b.count = subst (λ v. v.limit ≤ v.count) (sym c.self.view_is) c.requires.past in
    let filled = b.filled in
    let so_far = b.counted in
    let raised = c.count_call.ensures.count in
    let total = c.count_call.ensures.total in
    let told =
    subst (λ n. ∥ Keeps g.J.Naming.opening b.limit n b.log.items c.step_into.new.self ∥₁) (sym raised)
    (∥∥₁_map b.told (keeps_past g.J.Naming.opening b.limit b.count b.log.items b.balancer c.step_into.new.self past))
    in
    let tallied =
    subst (λ n. ∥ Counted g.J.Naming.opening n c.step_into.new.self c.step_into.new.tally ∥₁) (sym raised)
    (∥∥₁_map b.tallied (counted_grown g.J.Naming.opening b.count b.balancer c.step_into.new.self b.tally c.step_into.new.tally c.args.event c.step_into.new.answer c.step_into.new.noted c.step_into.ensures.answers c.step_into.ensures.noted c.step_into.ensures.counts c.step_into.ensures.numbers c.step_into.ensures.before))
    in (
      omega arith,
      (b.limited, (omega arith, (b.seated, (b.roomy, (told, (tallied, tt)))))),
    )

pub returns-clause-counts : goal.returns-clause-counts
returns-clause-counts g c =
    rw (← c.self.view_is)
    (record { raised = c.step_into.ensures.counts; numbers = (c.step_into.new.noted, c.step_into.ensures.noted, c.step_into.ensures.numbers) })

pub returns-clause-noted : goal.returns-clause-noted
returns-clause-noted g c = rw (← c.self.view_is) c.step_into.ensures.noted

use Rattle.std.proofs.Common.{◌≡◌, [], ◌∷◌, ◌++◌, rules}
use Rattle.std.proofs.lemmas.List.{nil_from_length}
use Rattle.std.specs.Vec.Iter.{into_iter_items}
use Rattle.lb_core.proofs.CountRuns.{begins, ends, goes_on}
use Rattle.lb_core.proofs.runs.run_counted.Goals as goal

pub loop-event-init : goal.loop-event-init
loop-event-init c =
    let none : c.in-Ok.answers.items ≡ [] = search rules in
    let all : into_iter_items c.into_iter-event-iterator.result ≡ c.args.events.items = search rules in
    (tt, tt, search rules, begins c.args.balancer.now c.args.tally.now c.args.events.items _ c.in-Ok.answers.items none all)

pub loop-event-preserved : goal.loop-event-preserved
loop-event-preserved c =
    let is : into_iter_items c.loop-event.event-iterator ≡ c.in-Some.event ∷ into_iter_items c.next.new.self = search rules in
    let more : c.push.new.self.items ≡ c.loop-event.answers.items ++ c.step_counted.result ∷ [] = search rules in (
      tt,
      tt,
      search rules,
      goes_on c.args.balancer.now c.loop-event.balancer c.step_counted.new.self c.args.tally.now c.loop-event.tally c.step_counted.new.tally c.args.events.items _ _ c.loop-event.answers.items c.push.new.self.items c.in-Some.event c.step_counted.result c.step_counted.new.noted
          is more c.step_counted.ensures.answers c.step_counted.ensures.noted c.step_counted.ensures.counts c.step_counted.ensures.numbers c.step_counted.ensures.before c.loop-event.invariant.3,
    )

pub returns-clause-run : goal.returns-clause-run
returns-clause-run c =
    let left : into_iter_items c.loop-event.event-iterator ≡ [] = nil_from_length _ (search rules) in
    (ends c.args.balancer.now c.loop-event.balancer c.args.tally.now c.loop-event.tally c.args.events.items _ c.loop-event.answers.items left c.loop-event.invariant.3).0

pub returns-clause-counts : goal.returns-clause-counts
returns-clause-counts c =
    let left : into_iter_items c.loop-event.event-iterator ≡ [] = nil_from_length _ (search rules) in
    (ends c.args.balancer.now c.loop-event.balancer c.args.tally.now c.loop-event.tally c.args.events.items _ c.loop-event.answers.items left c.loop-event.invariant.3).1

use Rattle.std.proofs.Common.{◌≡◌, [], refl, rules}
use Rattle.std.proofs.lemmas.List.{append-nil, nil_from_length}
use Rattle.std.specs.Vec.Iter.{into_iter_items}
use Rattle.lb_core.proofs.runs.run.Goals as goal

pub returns-clause-run : goal.returns-clause-run
returns-clause-run c =
    let left : into_iter_items c.loop-event.event-iterator ≡ [] = nil_from_length _ (search rules) in
    let whole = c.loop-event.invariant.3 [] c.loop-event.balancer (rw left refl) in
    rw append-nil at whole

pub returns-clause-provenance : goal.returns-clause-provenance
returns-clause-provenance c = λ outstanding kept.
    c.cached_answers_are_kept_replies.ensures c.args.balancer.now c.loop-event.balancer c.args.events.items c.loop-event.answers.items outstanding kept (returns-clause-run c)

pub returns-clause-hits : goal.returns-clause-hits
returns-clause-hits c =
    c.hits_come_from_replies.ensures c.args.balancer.now c.loop-event.balancer c.args.events.items c.loop-event.answers.items (returns-clause-run c)

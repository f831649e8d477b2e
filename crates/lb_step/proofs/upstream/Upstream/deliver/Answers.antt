use Rattle.std.proofs.Common.{◌≡◌, List, refl, sym, ap, subst, ◌∙◌}
use Rattle.lb_cache.specs.Caches.{CacheLists}
use Rattle.lb_cache.specs.declared.cached.AttachedCache.{AttachedCache}
use Rattle.lb_servers.specs.Park.{Backends}
use Rattle.lb_table.specs.Place.{at_place}
use Rattle.lb_step.specs.Answer.{marked}
use Rattle.lb_step.specs.Reply.{without}
use Rattle.lb_step.specs.Upstream.{AreNumbered, Upstreams}
use Rattle.lb_step.proofs.AreNumbered.{numbers_still}
use Rattle.lb_step.proofs.ChecksKeep.{ended_keeps}
use Rattle.lb_step.proofs.Delivered.{IsDelivered, delivered, keeps_over, lists_left, may_keep}
use Rattle.lb_step.proofs.Tied.{asked_out, seen_as, taken_seen, taken_tied}
use Rattle.lb_step.proofs.upstream.Upstream.deliver.Goals as goal

pub keep_and_deliver-answer-requires-clause-asked : goal.keep_and_deliver-answer-requires-clause-asked
keep_and_deliver-answer-requires-clause-asked c =
    asked_out c.self.inside.park c.self.inside.table (at_place c.args.from.0 c.args.from.1 c.args.view.now.id) c.in-Some.waiting.now c.self.invariant.0.tied (sym c.in-Some.ensures)

pub invariant_of-self : goal.invariant_of-self
invariant_of-self c =
    let place = at_place c.args.from.0 c.args.from.1 c.args.view.now.id in
    let done = c.keep_and_deliver-answer.ensures in
    let left = lists_left c.self.inside.caches c.keep_and_deliver-answer.new.caches done.1 done.3 in (
      ended_keeps c.self.inside.park c.ended.new.self c.self.inside.checks.items c.self.inside.table c.discard.new.self c.args.from.0 c.ended.ensures
          (taken_tied c.self.inside.park c.ended.new.self c.self.inside.table c.discard.new.self place c.in-Some.waiting.now c.self.invariant.0.tied (sym c.in-Some.ensures) c.ended.ensures c.discard.ensures.table)
          c.self.invariant.0,
      subst (λ (lists : CacheLists). AreNumbered c.ended.new.self.next_cache lists.caches) (sym left)
          (numbers_still c.self.inside.caches.caches c.self.inside.park c.ended.new.self (ap (λ (p : Backends). p.next_cache) c.ended.ensures) c.self.invariant.1),
    )

abbrev seen : goal.After-ended → Upstreams
seen c = seen_as c.self.inside.timeout c.self.inside.caches c.self.inside.checks.items c.self.inside.park c.self.inside.table

abbrev after : goal.After-ended → Upstreams
after c = seen_as c.self.inside.timeout c.keep_and_deliver-answer.new.caches c.self.inside.checks.items c.ended.new.self c.discard.new.self

done : (c : goal.After-ended) → IsDelivered (without (at_place c.args.from.0 c.args.from.1 c.args.view.now.id) (seen c)) (after c) c.args.moment c.args.bytes.items c.args.view.now c.in-Some.waiting.now c.keep_and_deliver-answer.result
done c =
    let place = at_place c.args.from.0 c.args.from.1 c.args.view.now.id in
    let done = c.keep_and_deliver-answer.ensures in
    let lists = c.self.inside.caches in
    let left = lists_left lists c.keep_and_deliver-answer.new.caches done.1 done.3 in (
      done.0,
      done.1,
      keeps_over (marked c.keep_and_deliver-answer.result) (without place (seen c)) lists c.args.moment c.args.bytes.items c.args.view.now c.in-Some.waiting.now.cache done.0 done.1 done.2,
      taken_seen c.self.inside.timeout c.keep_and_deliver-answer.new.caches c.self.inside.checks.items c.self.inside.park c.ended.new.self c.self.inside.table c.discard.new.self place c.ended.ensures c.discard.ensures.table
          ∙ ap (λ (new : CacheLists). without place (seen_as c.self.inside.timeout new c.self.inside.checks.items c.self.inside.park c.self.inside.table)) left,
      done.4,
    )

pub returns-clause-step : goal.returns-clause-step
returns-clause-step c =
    let place = at_place c.args.from.0 c.args.from.1 c.args.view.now.id in
    let entry = c.in-Some.waiting.now in
    rw (← c.self.view_is)
    (delivered (seen c) (without place (seen c)) (after c) c.args.from.0 c.args.from.1 c.args.moment c.args.bytes.items c.args.bytes.items c.args.view.now entry entry c.belongs_to.result c.keep_and_deliver-answer.result
    c.in-Some.ensures c.belongs_to.ensures.belongs c.if-not-belongs_to.false c.in-Some.ensures refl refl (done c))

pub returns-clause-mark : goal.returns-clause-mark
returns-clause-mark c =
    let place = at_place c.args.from.0 c.args.from.1 c.args.view.now.id in
    let entry = c.in-Some.waiting.now in
    rw (← c.self.view_is)
    (may_keep (seen c) (without place (seen c)) (after c) c.args.from.0 c.args.from.1 c.args.moment c.args.bytes.items c.args.bytes.items c.args.view.now entry entry c.belongs_to.result c.keep_and_deliver-answer.result
    c.requires.reads c.in-Some.ensures c.belongs_to.ensures.belongs c.if-not-belongs_to.false c.in-Some.ensures refl refl (done c))

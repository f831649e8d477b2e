use Rattle.std.proofs.Common.{◌∙◌, List, sym, subst, ap}
use Rattle.lb_table.specs.declared.entry.Waiting.{Waiting}
use Rattle.lb_step.specs.Upstream.{IsUpstream}
use Rattle.lb_step.proofs.Tied.{asked_due, due_seen, due_tied, none_due}
use Rattle.lb_step.proofs.AreNumbered.{numbers_still}
use Rattle.lb_step.proofs.ChecksKeep.{ended_keeps}
use Rattle.lb_servers.specs.Park.{Backends}
use Rattle.lb_step.proofs.upstream.Upstream.take_due.Goals as goal

pub invariant_of-self : goal.invariant_of-self
invariant_of-self c = (
  subst (λ (t : List Waiting). IsUpstream c.self.inside.park c.self.inside.checks.items t) (sym (c.in_err-waiting.ensures.table ∙ none_due c.self.inside.table c.args.now (sym c.in_err-waiting.ensures.due))) c.self.invariant.0,
  c.self.invariant.1,
)

pub invariant_of-self-2 : goal.invariant_of-self-2
invariant_of-self-2 c = (
  ended_keeps c.self.inside.park c.ended.new.self c.self.inside.checks.items c.self.inside.table c.take_due.new.self c.in_ok-waiting.waiting.place.server c.ended.ensures
      (due_tied c.self.inside.park c.ended.new.self c.self.inside.table c.take_due.new.self c.args.now c.in_ok-waiting.waiting c.self.invariant.0.tied (sym c.in_ok-waiting.ensures.due) c.ended.ensures c.in_ok-waiting.ensures.table)
      c.self.invariant.0,
  numbers_still c.self.inside.caches.caches c.self.inside.park c.ended.new.self (ap (λ (p : Backends). p.next_cache) c.ended.ensures) c.self.invariant.1,
)

pub returns-clause-asked : goal.returns-clause-asked
returns-clause-asked c = asked_due c.self.inside.park c.self.inside.table c.args.now c.in_ok-waiting.waiting c.self.invariant.0.tied (sym c.in_ok-waiting.ensures.due)

pub returns-clause-without : goal.returns-clause-without
returns-clause-without c =
    rw (← c.self.view_is)
    (due_seen c.self.inside.timeout c.self.inside.caches c.self.inside.checks.items c.self.inside.park c.ended.new.self c.self.inside.table c.take_due.new.self c.args.now c.in_ok-waiting.waiting.place.server c.ended.ensures c.in_ok-waiting.ensures.table)

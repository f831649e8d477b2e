use Rattle.std.proofs.Common.{◌∙◌, ap, sym, subst, Ok, Err, List}
use Rattle.lb_table.specs.declared.entry.Waiting.{Waiting}
use Rattle.lb_step.specs.declared.check.Check.{Check}
use Rattle.lb_step.specs.Upstream.{IsUpstream}
use Rattle.lb_step.proofs.Checks.{removed_seen}
use Rattle.lb_step.proofs.AreNumbered.{removed_numbers}
use Rattle.lb_step.proofs.ChecksKeep.{removed_keeps}
use Rattle.lb_step.proofs.Tied.{seen_as}
use Rattle.lb_step.proofs.upstream.Upstream.remove_server.Goals as goal

pub invariant_of-self : goal.invariant_of-self
invariant_of-self c = (
  subst (λ (t : List Waiting). IsUpstream c.remove_server.new.self c.remove_check.new.checks.items t) (sym c.let_go.ensures)
      (subst (λ (cs : List Check). IsUpstream c.remove_server.new.self cs c.self.inside.table) (sym c.remove_check.ensures) (removed_keeps c.self.inside.checks.items c.self.inside.table c.self.inside.park c.remove_server.new.self c.args.id (Ok tt) c.in-Ok.ensures c.self.invariant.0)),
  removed_numbers c.self.inside.caches.caches c.self.inside.park c.remove_server.new.self c.args.id (Ok tt) c.in-Ok.ensures c.self.invariant.1,
)

pub returns-in-Ok : goal.returns-in-Ok
returns-in-Ok c =
    rw (← c.self.view_is)
    (ap (λ (t : List Waiting). (seen_as c.self.inside.timeout c.self.inside.caches c.remove_check.new.checks.items c.remove_server.new.self t, Ok tt)) c.let_go.ensures
    ∙ ap (λ (cs : List Check). (seen_as c.self.inside.timeout c.self.inside.caches cs c.remove_server.new.self c.self.inside.table, Ok tt)) c.remove_check.ensures
    ∙ removed_seen c.self.inside.timeout c.self.inside.caches c.self.inside.checks.items c.self.inside.park c.remove_server.new.self c.self.inside.table c.args.id (Ok tt) c.self.invariant.0.tied c.in-Ok.ensures)

pub returns-in-Err : goal.returns-in-Err
returns-in-Err c =
    rw (← c.self.view_is)
    (removed_seen c.self.inside.timeout c.self.inside.caches c.self.inside.checks.items c.self.inside.park c.remove_server.new.self c.self.inside.table c.args.id (Err c.in-Err.fault) c.self.invariant.0.tied c.in-Err.ensures)

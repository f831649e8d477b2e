use Rattle.std.proofs.Common.{◌∙◌, [], ◌∷◌, ◌++◌, ap, sym, subst, Ok, Err, List, Result}
use Rattle.std.specs.Bool.{if◌then◌else◌}
use Rattle.std.specs.Result.{is_ok}
use Rattle.lb_step.specs.declared.check.Check.{Check}
use Rattle.lb_step.specs.Upstream.{IsUpstream}
use Rattle.lb_step.proofs.Checks.{added_seen}
use Rattle.lb_step.proofs.AreNumbered.{added_numbers}
use Rattle.lb_step.proofs.ChecksKeep.{added_keeps}
use Rattle.lb_step.proofs.Tied.{seen_as}
use Rattle.lb_step.proofs.upstream.Upstream.add_server.Goals as goal

pub returns-in-Err : goal.returns-in-Err
returns-in-Err c =
    rw (← c.self.view_is)
    (ap (λ (cs : List Check). (seen_as c.self.inside.timeout c.self.inside.caches cs c.self.inside.park c.self.inside.table, Err c.refusal.result)) c.in-Err.ensures.items
    ∙ added_seen c.self.inside.timeout c.self.inside.caches c.self.inside.checks.items c.self.inside.park c.self.inside.park c.self.inside.table c.args.spec c.args.check (Err c.refusal.result) c.self.invariant.0.tied c.refusal.ensures)

pub invariant_of-self-in-Ok : goal.invariant_of-self-in-Ok
invariant_of-self-in-Ok c = (
  subst (λ (cs : List Check). IsUpstream c.add_server.new.self cs c.self.inside.table)
      (sym (c.push.ensures.items ∙ ap (λ (pushed : Result _ _). if is_ok pushed then c.reserve.new.self.items ++ c.new.result ∷ [] else c.reserve.new.self.items) c.unwrap.ensures ∙ ap (λ (cs : List Check). cs ++ c.new.result ∷ []) c.in_default.ensures.items ∙ ap (λ (one : Check). c.self.inside.checks.items ++ one ∷ []) c.new.ensures))
      (added_keeps c.args.check c.self.inside.checks.items c.self.inside.table c.self.inside.park c.add_server.new.self c.args.spec (Ok c.in-Ok.id) c.in-Ok.ensures c.self.invariant.0),
  added_numbers c.self.inside.caches.caches c.self.inside.park c.add_server.new.self c.args.spec (Ok c.in-Ok.id) c.in-Ok.ensures c.self.invariant.1,
)

pub returns-in-Ok : goal.returns-in-Ok
returns-in-Ok c =
    rw (← c.self.view_is)
    (ap (λ (cs : List Check). (seen_as c.self.inside.timeout c.self.inside.caches cs c.add_server.new.self c.self.inside.table, Ok c.in-Ok.id)) (c.push.ensures.items ∙ ap (λ (pushed : Result _ _). if is_ok pushed then c.reserve.new.self.items ++ c.new.result ∷ [] else c.reserve.new.self.items) c.unwrap.ensures ∙ ap (λ (cs : List Check). cs ++ c.new.result ∷ []) c.in_default.ensures.items ∙ ap (λ (one : Check). c.self.inside.checks.items ++ one ∷ []) c.new.ensures)
    ∙ added_seen c.self.inside.timeout c.self.inside.caches c.self.inside.checks.items c.self.inside.park c.add_server.new.self c.self.inside.table c.args.spec c.args.check (Ok c.in-Ok.id) c.self.invariant.0.tied c.in-Ok.ensures)

pub invariant_of-self-in-Err-add_server : goal.invariant_of-self-in-Err-add_server
invariant_of-self-in-Err-add_server c = (
  subst (λ (cs : List Check). IsUpstream c.add_server.new.self cs c.self.inside.table) (sym c.in_default.ensures.items)
      (added_keeps c.args.check c.self.inside.checks.items c.self.inside.table c.self.inside.park c.add_server.new.self c.args.spec (Err c.in-Err-add_server.fault) c.in-Err-add_server.ensures c.self.invariant.0),
  added_numbers c.self.inside.caches.caches c.self.inside.park c.add_server.new.self c.args.spec (Err c.in-Err-add_server.fault) c.in-Err-add_server.ensures c.self.invariant.1,
)

pub returns-in-Err-add_server : goal.returns-in-Err-add_server
returns-in-Err-add_server c =
    rw (← c.self.view_is)
    (ap (λ (cs : List Check). (seen_as c.self.inside.timeout c.self.inside.caches cs c.add_server.new.self c.self.inside.table, Err c.in-Err-add_server.fault)) c.in_default.ensures.items
    ∙ added_seen c.self.inside.timeout c.self.inside.caches c.self.inside.checks.items c.self.inside.park c.add_server.new.self c.self.inside.table c.args.spec c.args.check (Err c.in-Err-add_server.fault) c.self.invariant.0.tied c.in-Err-add_server.ensures)

use Rattle.std.proofs.Common.{sym, subst}
use Rattle.lb_servers.specs.Park.{Backends, changed_pool}
use Rattle.lb_servers.specs.Pool.{with_policy}
use Rattle.lb_step.specs.Upstream.{AreNumbered, IsUpstream}
use Rattle.lb_step.proofs.Tied.{counted_tied, left_by, on_tied}
use Rattle.lb_step.proofs.AreNumbered.{policy_numbers}
use Rattle.lb_step.proofs.ChecksKeep.{policy_keeps}
use Rattle.lb_step.proofs.upstream.Upstream.set_policy.Goals as goal

pub invariant_of-self : goal.invariant_of-self
invariant_of-self c =
    subst (λ (p : Backends). IsUpstream p c.self.inside.checks.items c.self.inside.table × AreNumbered p.next_cache c.self.inside.caches.caches) (sym (left_by _ _ _ c.set_policy.ensures)) (
      policy_keeps c.self.inside.checks.items c.self.inside.table (with_policy c.args.policy) c.self.inside.park c.args.pool c.self.invariant.0,
      policy_numbers c.self.inside.caches.caches (with_policy c.args.policy) c.self.inside.park c.args.pool c.self.invariant.1,
    )

pub returns : goal.returns
returns c = rw (← c.self.view_is) (on_tied _ c.self.inside.park c.set_policy.new.self c.set_policy.result (λ park. changed_pool (with_policy c.args.policy) park c.args.pool) (counted_tied c.self.inside.timeout c.self.inside.caches c.self.inside.checks.items c.self.inside.park c.self.inside.table c.self.invariant.0.tied) c.set_policy.ensures)

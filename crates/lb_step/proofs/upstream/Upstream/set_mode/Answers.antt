use Rattle.std.proofs.Common.{sym, subst}
use Rattle.lb_servers.specs.Park.{Backends, changed_server}
use Rattle.lb_servers.specs.Server.{with_mode}
use Rattle.lb_step.specs.Upstream.{AreNumbered, IsUpstream}
use Rattle.lb_step.proofs.Tied.{counted_tied, left_by, on_tied}
use Rattle.lb_step.proofs.AreNumbered.{changed_numbers}
use Rattle.lb_step.proofs.ChecksKeep.{mode_keeps}
use Rattle.lb_step.proofs.upstream.Upstream.set_mode.Goals as goal

pub invariant_of-self : goal.invariant_of-self
invariant_of-self c =
    subst (λ (p : Backends). IsUpstream p c.self.inside.checks.items c.self.inside.table × AreNumbered p.next_cache c.self.inside.caches.caches) (sym (left_by _ _ _ c.set_mode.ensures)) (
      mode_keeps c.self.inside.checks.items c.self.inside.table c.args.mode c.self.inside.park c.args.id c.self.invariant.0,
      changed_numbers c.self.inside.caches.caches (with_mode c.args.mode) c.self.inside.park c.args.id c.self.invariant.1,
    )

pub returns : goal.returns
returns c = rw (← c.self.view_is) (on_tied _ c.self.inside.park c.set_mode.new.self c.set_mode.result (λ park. changed_server (with_mode c.args.mode) park c.args.id) (counted_tied c.self.inside.timeout c.self.inside.caches c.self.inside.checks.items c.self.inside.park c.self.inside.table c.self.invariant.0.tied) c.set_mode.ensures)

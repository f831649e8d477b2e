use Rattle.std.proofs.Common.{sym, subst}
use Rattle.lb_servers.specs.Park.{Backends, added_pool, lacks}
use Rattle.lb_step.specs.Upstream.{AreNumbered, IsUpstream}
use Rattle.lb_step.proofs.Tied.{counted_tied, left_by, on_tied}
use Rattle.lb_step.proofs.AreNumbered.{pool_numbers}
use Rattle.lb_step.proofs.ChecksKeep.{pool_keeps}
use Rattle.lb_step.proofs.upstream.Upstream.add_pool.Goals as goal

pub invariant_of-self : goal.invariant_of-self
invariant_of-self c =
    subst (λ (p : Backends). IsUpstream p c.self.inside.checks.items c.self.inside.table × AreNumbered p.next_cache c.self.inside.caches.caches) (sym (left_by _ _ _ c.add_pool.ensures)) (
      pool_keeps c.self.inside.checks.items c.self.inside.table (lacks c.add_pool.result) c.self.inside.park c.args.name c.self.invariant.0,
      pool_numbers c.self.inside.caches.caches (lacks c.add_pool.result) c.self.inside.park c.args.name c.self.invariant.1,
    )

pub returns : goal.returns
returns c = rw (← c.self.view_is) (on_tied _ c.self.inside.park c.add_pool.new.self c.add_pool.result (λ park. added_pool (lacks c.add_pool.result) park c.args.name) (counted_tied c.self.inside.timeout c.self.inside.caches c.self.inside.checks.items c.self.inside.park c.self.inside.table c.self.invariant.0.tied) c.add_pool.ensures)

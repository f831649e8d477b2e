use Rattle.std.proofs.Common.{subst, sym}
use Rattle.lb_cache.specs.Caches.{CacheLists}
use Rattle.lb_step.specs.Upstream.{AreNumbered}
use Rattle.lb_step.proofs.AreNumbered.{detached_numbers}
use Rattle.lb_step.proofs.CacheEdits.{detached_seen}
use Rattle.lb_step.proofs.ChecksKeep.{detached_keeps}
use Rattle.lb_step.proofs.upstream.Upstream.detach_cache.Goals as goal

pub invariant_of-self : goal.invariant_of-self
invariant_of-self c = (
  detached_keeps c.self.inside.checks.items c.self.inside.table c.self.inside.park c.detach_cache.new.self c.args.pool c.detach_cache.result c.detach_cache.ensures c.self.invariant.0,
  subst (λ (lists : CacheLists). AreNumbered c.detach_cache.new.self.next_cache lists.caches) (sym c.detach.ensures)
      (detached_numbers c.self.inside.caches c.self.inside.park c.detach_cache.new.self c.args.pool c.detach_cache.result c.in_ok-id.id c.detach_cache.ensures c.self.invariant.1),
)

pub returns : goal.returns
returns c =
    rw (← c.self.view_is)
    (detached_seen c.self.inside.timeout c.self.inside.caches c.detach.new.self c.self.inside.checks.items c.self.inside.park c.detach_cache.new.self c.self.inside.table c.args.pool c.in_ok-id.id c.detach_cache.result
    c.self.invariant.0.tied c.detach_cache.ensures c.in_ok-id.ensures c.detach.ensures)

use Rattle.std.proofs.Common.{sym}
use Rattle.lb_step.proofs.AreNumbered.{attached_numbers}
use Rattle.lb_step.proofs.CacheEdits.{attached_seen}
use Rattle.lb_step.proofs.ChecksKeep.{attached_keeps}
use Rattle.lb_step.proofs.upstream.Upstream.attach_cache.Goals as goal

pub invariant_of-self : goal.invariant_of-self
invariant_of-self c = (
  attached_keeps c.self.inside.checks.items c.self.inside.table c.self.inside.park c.attach_cache.new.self c.args.pool c.attach_cache.result c.attach_cache.ensures c.self.invariant.0,
  attached_numbers c.self.inside.caches c.attach.new.self c.self.inside.park c.attach_cache.new.self c.args.pool c.attach_cache.result c.cache_of.result (record { id = record { 0 = c.next_cache.result }; max = c.in-Ok.cache.max; max_ttl = c.in-Ok.cache.max_ttl; skips = c.in-Ok.cache.skips })
      c.attach_cache.ensures c.next_cache.ensures.number c.in-Ok-attach.ensures.attached c.self.invariant.1,
)

pub returns-in-Ok-attach : goal.returns-in-Ok-attach
returns-in-Ok-attach c =
    rw (← c.self.view_is)
    (attached_seen c.self.inside.timeout c.self.inside.caches c.attach.new.self c.self.inside.checks.items c.self.inside.park c.attach_cache.new.self c.self.inside.table c.args.pool c.args.spec.max c.args.spec.shards c.args.spec.max_ttl c.args.spec.skips
    c.next_cache.result c.in-Ok.cache c.cache_of.result c.attach_cache.result
    c.self.invariant.0.tied c.attach_cache.ensures (sym c.in_ok-cache_ready.ensures) c.cache_of.ensures c.next_cache.ensures.number c.in-Ok.ensures c.in-Ok-attach.ensures.attached)

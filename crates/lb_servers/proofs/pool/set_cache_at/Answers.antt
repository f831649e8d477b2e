use Rattle.std.proofs.Common.{set, sym, ap, ◌∙◌, arith}
use Rattle.lb_servers.specs.declared.pool.Pool.{Pool}
use Rattle.lb_servers.specs.Pool.{with_cache}
use Rattle.lb_servers.proofs.ChangeAt.{changed_past, changed_there}
use Rattle.lb_servers.proofs.pool.set_cache_at.Goals as goal

pub returns-then-at-pools : goal.returns-then-at-pools
returns-then-at-pools c = ap (λ (p : Pool). set c.args.pools.now c.args.at p) c.set_cache.ensures ∙ sym (changed_there (with_cache c.args.cache) c.args.at c.args.pools.now c.index-pools-at.result c.if-at-pools.true)

pub returns-else-at-pools : goal.returns-else-at-pools
returns-else-at-pools c = sym (changed_past (with_cache c.args.cache) c.args.at c.args.pools.now (omega arith))

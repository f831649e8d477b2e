use Rattle.lb_step.proofs.CacheEdits.{may_attach}
use Rattle.lb_step.proofs.edit.attach_cache.Goals as goal

pub returns-in-Err-clause-mark : goal.returns-in-Err-clause-mark
returns-in-Err-clause-mark c =
    rw c.servers_refused-in-Err.ensures
    (may_attach c.args.upstream.now c.attach_cache.new.self c.args.spec.max c.args.spec.max_ttl c.args.spec.skips _ c.in-Some.pool c.in-Err.fault c.in-Some.ensures c.in-Err.ensures)

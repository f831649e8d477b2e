use Rattle.lb_step.proofs.ParkEdits.{may_add_pool}
use Rattle.lb_step.proofs.edit.add_pool.Goals as goal

pub returns-in-Err-clause-mark : goal.returns-in-Err-clause-mark
returns-in-Err-clause-mark c =
    rw c.servers_refused.ensures (may_add_pool c.args.upstream.now c.add_pool.new.self c.args.name c.in-Err.fault c.in-Err.ensures)

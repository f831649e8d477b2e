use Rattle.lb_step.proofs.ParkEdits.{may_add_server}
use Rattle.lb_step.proofs.edit.add_server.Goals as goal

pub returns-in-Err-clause-mark : goal.returns-in-Err-clause-mark
returns-in-Err-clause-mark c =
    rw c.servers_refused.ensures (may_add_server c.args.upstream.now c.add_server.new.self c.args.spec c.args.check c.in-Err.fault c.in-Err.ensures)

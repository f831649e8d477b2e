use Rattle.lb_loops_io.proofs.Sends.{one_connection, one_message}
use Rattle.lb_loops_io.proofs.laws.one_send_a_line.Goals as goal

pub returns-clause-message : goal.returns-clause-message
returns-clause-message c = one_message

pub returns-clause-connection : goal.returns-clause-connection
returns-clause-connection c = one_connection

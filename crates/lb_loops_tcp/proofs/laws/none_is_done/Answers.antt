use Rattle.lb_loops_tcp.proofs.Settling.{undone_new_table}
use Rattle.lb_loops_tcp.proofs.laws.none_is_done.Goals as goal

pub returns : goal.returns
returns c = undone_new_table

use Rattle.std.proofs.Common.{append_assoc}
use Rattle.lb_program_serve.proofs.operator.fault_line.Goals as goal

pub returns : goal.returns
returns c = simp append_assoc (rw (c.number-number.ensures, c.name-name.ensures.name) at c.format.ensures.ok)

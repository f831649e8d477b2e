use Rattle.std.proofs.Common.{append_assoc}
use Rattle.lb_command.proofs.answers.deliver_line.Goals as goal

pub returns : goal.returns
returns c = simp append_assoc (rw (c.kept_word-kept.ensures, c.in_ok-bytes.ensures) at c.format.ensures.ok)

use Rattle.std.proofs.Common.{append_assoc}
use Rattle.lb_command.proofs.answers.edited_line.Goals as goal

pub returns-in-ServerMode : goal.returns-in-ServerMode
returns-in-ServerMode c = rw c.in-ServerMode.is (simp append_assoc (rw c.mode_word-mode.ensures at c.format.ensures.ok))

pub returns-in-PoolPolicy : goal.returns-in-PoolPolicy
returns-in-PoolPolicy c = simp (c.in-PoolPolicy.is, append_assoc) (rw (c.pool_word-name-in-PoolPolicy.ensures, c.policy_word-policy.ensures) at c.format-in-PoolPolicy.ensures.ok)

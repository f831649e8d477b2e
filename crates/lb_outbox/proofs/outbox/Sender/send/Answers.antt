use Rattle.std.proofs.Common.{rules}
use Rattle.lb_outbox.proofs.Rules.{sends}
use Rattle.lb_outbox.proofs.outbox.Sender.send.Goals as goal

pub push_as-requires-clause-rule : goal.push_as-requires-clause-rule
push_as-requires-clause-rule g c = (sends _ _ _ _ _ (search rules), λ _ _ _ _. tt)

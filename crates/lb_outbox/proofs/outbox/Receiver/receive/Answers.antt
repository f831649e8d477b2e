use Rattle.std.proofs.Common.{rules}
use Rattle.lb_outbox.proofs.Rules.{receives}
use Rattle.lb_outbox.proofs.outbox.Receiver.receive.Goals as goal

pub pop_as-requires-clause-rule : goal.pop_as-requires-clause-rule
pop_as-requires-clause-rule g c = (receives _ _ (search rules), λ _ _ _ _. tt)

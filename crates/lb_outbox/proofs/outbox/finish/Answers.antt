use Rattle.std.proofs.Common.{rules}
use Rattle.lb_outbox.proofs.Rules.{merges, settles}
use Rattle.lb_outbox.proofs.outbox.finish.Goals as goal

pub absorb-requires-clause-rule : goal.absorb-requires-clause-rule
absorb-requires-clause-rule c = merges _ _ _ _

pub absorb-requires-2-clause-rule : goal.absorb-requires-2-clause-rule
absorb-requires-2-clause-rule c = merges _ _ _ _

pub learn_as-requires-clause-rule : goal.learn_as-requires-clause-rule
learn_as-requires-clause-rule c = settles _ _

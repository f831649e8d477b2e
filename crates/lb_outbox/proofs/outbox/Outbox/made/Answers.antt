use Rattle.std.proofs.Common.{rules, refl}
use Rattle.lb_outbox.proofs.Rules.{begins, forks}
use Rattle.lb_outbox.specs.declared.rule.SenderId.TheVariants.{One, Two}
use Rattle.lb_outbox.proofs.outbox.Outbox.made.Goals as goal

pub ruled-requires-clause-rule : goal.ruled-requires-clause-rule
ruled-requires-clause-rule c = begins

pub another-one-requires-clause-rule : goal.another-one-requires-clause-rule
another-one-requires-clause-rule c = forks One _ _ (search rules)

pub another-two-requires-clause-rule : goal.another-two-requires-clause-rule
another-two-requires-clause-rule c = forks Two _ _ (search rules)

use Rattle.lb_step.proofs.Crosses.{balancer_send, event_send, plain_sync}
use Rattle.lb_step.proofs.laws.balancers_cross_threads.Goals as goal

pub returns-clause-balancer : goal.returns-clause-balancer
returns-clause-balancer c = balancer_send c.chains_cross_threads.ensures.chain

pub returns-clause-event : goal.returns-clause-event
returns-clause-event c = event_send c.terms_cross_threads.ensures.send

pub returns-clause-snapshot : goal.returns-clause-snapshot
returns-clause-snapshot c = plain_sync c.chains_cross_threads.ensures.listed

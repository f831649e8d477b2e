use Rattle.lb_terms.proofs.Crosses.{checked_send, checked_sync}
use Rattle.lb_terms.proofs.laws.terms_cross_threads.Goals as goal

pub returns-clause-send : goal.returns-clause-send
returns-clause-send c = checked_send

pub returns-clause-sync : goal.returns-clause-sync
returns-clause-sync c = checked_sync

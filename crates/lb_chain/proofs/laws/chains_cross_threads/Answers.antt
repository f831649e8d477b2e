use Rattle.lb_chain.proofs.Crosses.{chain_send, listed_sync}
use Rattle.lb_chain.proofs.laws.chains_cross_threads.Goals as goal

pub returns-clause-chain : goal.returns-clause-chain
returns-clause-chain c = chain_send c.terms_cross_threads.ensures.send

pub returns-clause-listed : goal.returns-clause-listed
returns-clause-listed c = listed_sync c.terms_cross_threads.ensures.sync

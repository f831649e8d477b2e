use Rattle.std.proofs.Common.{subst}
use Rattle.lb_cache.specs.Store.{AreFiled}
use Rattle.lb_cache.proofs.store.Store.law_of_store.Goals as goal

pub returns : goal.returns
returns c = subst AreFiled c.self.view_is c.self.invariant.are

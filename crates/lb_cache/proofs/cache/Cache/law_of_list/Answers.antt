use Rattle.std.proofs.Common.{subst, arith}
use Rattle.lb_cache.specs.Cache.{AreReplies}
use Rattle.lb_cache.proofs.Views.{ascends_view, length_view}
use Rattle.lb_cache.proofs.cache.Cache.law_of_list.Goals as goal

pub returns : goal.returns
returns c = subst AreReplies c.self.view_is (record {
  order = ascends_view c.self.inside.store c.law_of_store.ensures;
  few = omega (arith, length_view c.self.inside.store c.law_of_store.ensures, c.self.invariant);
})

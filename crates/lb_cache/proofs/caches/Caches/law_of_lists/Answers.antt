use Rattle.std.proofs.Common.{subst}
use Rattle.lb_cache.specs.Caches.{AreKept}
use Rattle.lb_cache.proofs.AreKept.{are_kept}
use Rattle.lb_cache.proofs.caches.Caches.law_of_lists.Goals as goal

pub returns : goal.returns
returns c = subst AreKept c.self.view_is (are_kept c.self.inside.shelves.items c.self.invariant)

use Rattle.std.proofs.Common.{◌∙◌, sym, ap, length}
use Rattle.lb_cache.specs.Cache.{Caching}
use Rattle.lb_cache.proofs.Views.{length_view}
use Rattle.lb_cache.proofs.cache.Cache.len.Goals as goal

pub returns : goal.returns
returns c = c.len.ensures ∙ sym (length_view c.self.inside.store c.law_of_store.ensures) ∙ ap (λ (k : Caching). length k.replies) c.self.view_is

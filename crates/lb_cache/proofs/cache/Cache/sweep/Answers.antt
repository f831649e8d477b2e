use Rattle.std.proofs.Common.{List, ap, ◌∙◌}
use Rattle.lb_cache.specs.Cache.{Caching}
use Rattle.lb_cache.specs.declared.reply.CachedReply.{CachedReply}
use Rattle.lb_cache.proofs.Views.{same_view}
use Rattle.lb_cache.proofs.Whole.{cached}
use Rattle.lb_cache.proofs.cache.Cache.sweep.Goals as goal

pub returns : goal.returns
returns c =
    let inside : Caching = cached c.self.inside.max c.self.inside.shards c.self.inside.max_ttl c.self.inside.skips c.self.inside.store in
    ap (λ (xs : List CachedReply). record inside { replies = xs }) (same_view c.self.inside.store c.sweep-more.new.self c.sweep-more.ensures.keys c.sweep-more.ensures.kept) ∙ c.self.view_is

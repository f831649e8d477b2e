use Rattle.std.proofs.Common.{◌≡◌, ◌∙◌, sym, ap, subst, List, [], ℕ}
use Rattle.lb_wire.specs.declared.key.Key.{Key}
use Rattle.lb_cache.specs.Cache.{Caching, expunged}
use Rattle.lb_cache.specs.Keys.{slots_of}
use Rattle.lb_cache.specs.Question.{covers_all}
use Rattle.lb_cache.specs.Store.{replies_at, replies_of}
use Rattle.lb_cache.proofs.Expunged.{all_expunged}
use Rattle.lb_cache.proofs.Views.{length_view}
use Rattle.lb_cache.proofs.Whole.{cached}
use Rattle.lb_cache.proofs.cache.Cache.take_all.Goals as goal

pub returns : goal.returns
returns c =
    let inside : Caching = cached c.self.inside.max c.self.inside.shards c.self.inside.max_ttl c.self.inside.skips c.self.inside.store in
    let emptied : replies_of c.replace.new.dest ≡ [] = ap replies_of c.replace.ensures.after ∙ ap (λ (es : List (Key × ℕ)). replies_at (slots_of es) c.new.result.cells) c.new.ensures in
    subst (λ (cache : Caching). (record inside { replies = replies_of c.replace.new.dest }, c.len-count.result) ≡ expunged covers_all cache) c.self.view_is
    (all_expunged inside (replies_of c.replace.new.dest) c.len-count.result emptied (c.len-count.ensures ∙ sym (length_view c.self.inside.store c.law_of_store.ensures)))

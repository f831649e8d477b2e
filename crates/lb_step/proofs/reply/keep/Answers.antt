use Rattle.std.proofs.Common.{◌≡◌, Option, Some, sym, ◌∙◌, ap, subst}
use Rattle.std.specs.Prelude.{IfSome}
use Rattle.lb_name.specs.Name.{lower_name}
use Rattle.lb_wire.specs.Message.{Message, Lays}
use Rattle.lb_wire.specs.declared.ids.CacheId.{CacheId}
use Rattle.lb_wire.specs.declared.key.Key.{Key}
use Rattle.lb_cache.specs.Caches.{cache_with, name_of_key}
use Rattle.lb_step.proofs.Delivered.{found_cache, keepable}
use Rattle.lb_step.proofs.reply.keep.Goals as goal

pub keep-requires-clause-attached : goal.keep-requires-clause-attached
keep-requires-clause-attached c =
    let caches = c.args.caches.now.caches in
    let found : cache_with c.in-Some.id caches ≡ Some c.in-Some-with_id.cache = sym c.in-Some-with_id.ensures in
    ap (λ (id : CacheId). cache_with id caches) (found_cache c.in-Some.id caches c.in-Some-with_id.cache found) ∙ found

pub keep-requires-clause-keepable : goal.keep-requires-clause-keepable
keep-requires-clause-keepable c =
    keepable c.least_is_outlived.ensures c.none_is_outlived.ensures c.in-Some-with_id.cache.max_ttl c.as_slice.result.now c.args.bytes.now c.args.view.now c.in-Some.key c.lifetime-life.result
    c.lifetime-life.ensures.0 c.lifetime-life.ensures.1 c.lifetime-life.ensures.2 c.if-life-eq0.false
    (subst (λ (ask : Option (CacheId × Key)). IfSome ask (λ ask. (m : Message) → Lays c.args.bytes.now m → lower_name m.name ≡ name_of_key ask.1)) c.in-Some.is c.requires.key)

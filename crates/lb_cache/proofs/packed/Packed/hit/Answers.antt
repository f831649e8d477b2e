use Rattle.std.proofs.Common.{sym, ap, ◌∙◌, arith}
use Rattle.std.proofs.lemmas.Bool.{ltb-true}
use Rattle.lb_cache.specs.declared.reply.CachedReply.{CachedReply}
use Rattle.lb_cache.proofs.packed.Packed.hit.Goals as goal

pub overflow_cast-result : goal.overflow_cast-result
overflow_cast-result c = omega (arith, c.saturating_sub-secs.ensures, c.lives.ensures.fits, ap (λ (r : CachedReply). r.moment) c.self.view_is, ltb-true _ _ (sym c.lives.ensures.value ∙ c.if-not-lives.false))

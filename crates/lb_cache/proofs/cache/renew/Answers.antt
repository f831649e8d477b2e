use Rattle.std.proofs.Common.{ap, subst, List, Some}
use Rattle.lb_index_slots.specs.Slots.{Updates}
use Rattle.lb_wire.specs.declared.kept.Kept.TheVariants.{Yes}
use Rattle.lb_cache.specs.declared.reply.CachedReply.{CachedReply}
use Rattle.lb_cache.specs.Cache.{reply_of}
use Rattle.lb_cache.proofs.Shelved.{found_holds}
use Rattle.lb_cache.proofs.Views.{replies_renewed}
use Rattle.lb_cache.proofs.cache.renew.Goals as goal

pub returns-clause-list : goal.returns-clause-list
returns-clause-list c =
    let r : CachedReply = reply_of c.args.fresh.now in
    let put : Updates c.args.store.now.cells c.renew.new.self.cells c.args.slot (Some r) = subst (λ (x : CachedReply). Updates c.args.store.now.cells c.renew.new.self.cells c.args.slot (Some x)) c.in-Ok.ensures c.in_default.ensures.put in
    let holds = found_holds c.args.store.now.cells c.args.store.now.keys c.args.fresh.now.key.now c.args.slot c.law_of_store.ensures.held c.requires.there in
    ap (λ (xs : List CachedReply). (xs, Yes)) (replies_renewed c.args.store.now c.renew.new.self c.args.slot holds.0 r c.law_of_store.ensures c.law_of_store-2.ensures holds.1 holds.2 put)

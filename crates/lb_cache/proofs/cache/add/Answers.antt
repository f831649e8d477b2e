use Rattle.std.proofs.Common.{ap, subst, List, Some}
use Rattle.lb_index_slots.specs.Slots.{Updates}
use Rattle.lb_wire.specs.declared.kept.Kept.TheVariants.{Yes}
use Rattle.lb_cache.specs.declared.reply.CachedReply.{CachedReply}
use Rattle.lb_cache.specs.Cache.{placed, reply_of}
use Rattle.lb_cache.specs.Store.{replies_of}
use Rattle.lb_cache.proofs.Views.{found_none, replies_placed, same_view}
use Rattle.lb_cache.proofs.Whole.{written_lacks}
use Rattle.lb_cache.proofs.cache.add.Goals as goal

pub returns-in-Err-add-clause-list : goal.returns-in-Err-add-clause-list
returns-in-Err-add-clause-list c =
    let r : CachedReply = reply_of c.args.fresh.now in
    written_lacks (replies_of c.args.store.now) (replies_of c.add.new.self) (placed r (replies_of c.args.store.now)) c.from-in-Err-add.result c.from-in-Err-add.ensures (same_view c.args.store.now c.add.new.self c.in-Err-add.ensures.keys c.in-Err-add.ensures.kept)

pub returns-clause-list : goal.returns-clause-list
returns-clause-list c =
    let r : CachedReply = reply_of c.args.fresh.now in
    let put : Updates c.args.store.now.cells c.add.new.self.cells c.in_default.field-0 (Some r) = subst (λ (x : CachedReply). Updates c.args.store.now.cells c.add.new.self.cells c.in_default.field-0 (Some x)) c.in-Ok.ensures c.in_default.ensures.put in
    ap (λ (xs : List CachedReply). (xs, Yes)) (replies_placed c.args.store.now c.add.new.self c.in_default.field-0 r c.law_of_store.ensures c.law_of_store-2.ensures c.in_default.ensures.free put (found_none c.args.store.now c.args.fresh.now.key.now c.law_of_store.ensures c.requires.new))

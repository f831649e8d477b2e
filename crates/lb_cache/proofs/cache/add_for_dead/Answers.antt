use Rattle.std.proofs.Common.{◌≡◌, ap, subst, sym, List, Some, arith, length}
use Rattle.std.specs.List.{filter}
use Rattle.lb_index_slots.specs.Slots.{Updates}
use Rattle.lb_wire.specs.declared.kept.Kept.TheVariants.{Yes}
use Rattle.lb_cache.specs.declared.reply.CachedReply.{CachedReply}
use Rattle.lb_cache.specs.Cache.{placed, reply_of}
use Rattle.lb_cache.specs.Reply.{lives}
use Rattle.lb_cache.specs.Store.{replies_of}
use Rattle.lb_cache.proofs.Puts.{fewer_live, length_placed}
use Rattle.lb_cache.proofs.Views.{found_none, length_view, replies_for_dead, same_view}
use Rattle.lb_cache.proofs.Whole.{written_lacks}
use Rattle.lb_cache.proofs.cache.add_for_dead.Goals as goal

abbrev fresh : goal.After-law_of_store-in-Ok-add-2 → CachedReply
fresh c = reply_of c.args.fresh.now

left : (c : goal.After-law_of_store-in-Ok-add-2) → replies_of c.purge_but.new.store ≡ placed (fresh c) (filter (lives c.args.fresh.now.moment) (replies_of c.args.store.now))
left c =
    let put : Updates c.args.store.now.cells c.add.new.self.cells c.in-Ok-add.slot (Some (fresh c)) = subst (λ (x : CachedReply). Updates c.args.store.now.cells c.add.new.self.cells c.in-Ok-add.slot (Some x)) c.in-Ok.ensures c.in-Ok-add.ensures.put in
    replies_for_dead (lives c.args.fresh.now.moment) c.args.store.now c.add.new.self c.purge_but.new.store c.in-Ok-add.slot (fresh c) c.law_of_store.ensures c.law_of_store-in-Ok-add.ensures c.law_of_store-in-Ok-add-2.ensures c.in-Ok-add.ensures.free put
    (found_none c.args.store.now c.args.fresh.now.key.now c.law_of_store.ensures c.requires.new) c.purge_but.ensures.left c.purge_but.ensures.own

pub returns-in-Ok-add-clause-list : goal.returns-in-Ok-add-clause-list
returns-in-Ok-add-clause-list c = ap (λ (xs : List CachedReply). (xs, Yes)) (left c)

pub returns-in-Ok-add-clause-few : goal.returns-in-Ok-add-clause-few
returns-in-Ok-add-clause-few c =
    let old : List CachedReply = replies_of c.args.store.now in
    omega (arith, sym (length_view c.purge_but.new.store c.law_of_store-in-Ok-add-2.ensures), ap (λ (xs : List CachedReply). length xs) (left c), length_placed (fresh c) (filter (lives c.args.fresh.now.moment) old), fewer_live c.args.fresh.now.moment old c.requires.dead, length_view c.args.store.now c.law_of_store.ensures)

pub returns-in-Err-add-clause-list : goal.returns-in-Err-add-clause-list
returns-in-Err-add-clause-list c =
    let r : CachedReply = reply_of c.args.fresh.now in
    written_lacks (replies_of c.args.store.now) (replies_of c.add.new.self) (placed r (filter (lives c.args.fresh.now.moment) (replies_of c.args.store.now))) c.from-in-Err-add.result c.from-in-Err-add.ensures (same_view c.args.store.now c.add.new.self c.in-Err-add.ensures.keys c.in-Err-add.ensures.kept)

use Rattle.std.proofs.Common.{◌≡◌, ◌++◌, drop}
use Rattle.lb_cache.specs.Store.{replies_at}
use Rattle.lb_cache.proofs.cache.list_replies.Given as goal

abbrev pub invariant-loop-slot : goal.invariant-loop-slot
invariant-loop-slot l = l.list.items ++ replies_at (drop l.slot-index l.slots) l.store.cells ≡ replies_at l.slots l.store.cells

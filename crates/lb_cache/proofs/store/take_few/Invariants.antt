use Rattle.std.proofs.Common.{◌≡◌, ℕ, ◌≤◌, length}
use Rattle.lb_cache.specs.Store.{in_slot, others, stays, within}
use Rattle.lb_cache.proofs.store.take_few.Given as goal

abbrev pub invariant-loop : goal.invariant-loop
invariant-loop l =
    ((s : ℕ) → stays (others (within l.span.low l.span.high)) (in_slot l.store s) ≡ stays (others (within l.span.low l.span.high)) (in_slot l.fn.store s))
    × (length l.store.keys ≤ length l.fn.store.keys)

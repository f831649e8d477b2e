use Rattle.std.proofs.Common.{◌≡◌, ℕ, ◌≤◌, length}
use Rattle.lb_cache.specs.Store.{in_slot, others, stays, within}
use Rattle.lb_cache.proofs.store.take_within.Given as goal

abbrev pub invariant-loop-slot : goal.invariant-loop-slot
invariant-loop-slot l =
    ((s : ℕ) → stays (others (within l.span.low l.span.high)) (in_slot l.store s) ≡ stays (others (within l.span.low l.span.high)) (in_slot l.fn.store s))
    × (length l.store.keys ≤ length l.fn.store.keys)

abbrev pub decreases-loop-slot : goal.decreases-loop-slot
decreases-loop-slot l = length l.store.keys

use Rattle.std.proofs.Common.{◌≡◌, ◌++◌, length, map}
use Rattle.lb_index_ranks.specs.declared.filed.Filed.{Filed}
use Rattle.lb_cache.proofs.listing.list_slots.Given as goal

abbrev pub invariant-slots : goal.invariant-slots
invariant-slots l = l.list.items ++ map (λ (f : Filed). f.rank) l.walk ≡ l.fn.list.items ++ map (λ (f : Filed). f.rank) l.fn.slots

abbrev pub decreases-slots : goal.decreases-slots
decreases-slots l = length l.walk

use Rattle.std.proofs.Common.{◌≡◌, not, length}
use Rattle.std.specs.Prelude.{vec_capacity}
use Rattle.std.specs.List.{filter}
use Rattle.lb_cache.specs.Caches.{is_old}
use Rattle.lb_cache.proofs.caches.put_aside.Given as goal

abbrev pub invariant-all : goal.invariant-all
invariant-all l =
    (filter (λ s. not (is_old l.fn.old s)) l.shelves.items ≡ filter (λ s. not (is_old l.fn.old s)) l.fn.shelves.items)
    × (length l.shelves.items ≡ length l.fn.shelves.items)
    × (vec_capacity l.shelves ≡ vec_capacity l.fn.shelves)

use Rattle.std.proofs.Common.{◌≡◌, ◌+◌, ◌≤◌, ◌++◌, length, drop}
use Rattle.lb_chain.specs.Edits.{limiters_in}
use Rattle.lb_chain.specs.Places.{places_from, places_of}
use Rattle.lb_chain.proofs.places.Places.of.Given as goal

abbrev pub invariant-loop-at : goal.invariant-loop-at
invariant-loop-at l =
    (length l.items.items + limiters_in (drop l.at l.rules) ≤ 16)
    × (l.items.items ++ places_from l.at (drop l.at l.rules) ≡ places_of l.rules)

use Rattle.std.proofs.Common.{◌≡◌, ◌≤◌, ◌-◌, List, ℕ, length}
use Rattle.std.specs.List.{AllByRecursion}
use Rattle.lb_name.specs.Name.{IsLabel, labels_octets}
use Rattle.lb_suffix.proofs.Overs.{Looked}
use Rattle.lb_suffix.proofs.over.next_over.Given as goal

abbrev pub invariant-labels : goal.invariant-labels
invariant-labels l =
    (l.at ≤ length l.key)
    × ((labels : List (List ℕ)) → AllByRecursion IsLabel labels → l.key ≡ labels_octets labels → Looked l.ranks l.key labels l.from l.at l.best)

abbrev pub decreases-labels : goal.decreases-labels
decreases-labels l = length l.key - l.at

use Rattle.std.proofs.Common.{◌≡◌, ◌+◌, ◌++◌, ◌≤◌, drop, length}
use Rattle.lb_name.specs.Name.{labels_of, IsWire}
use Rattle.lb_suffix.specs.Key.{reversed_octets}
use Rattle.lb_suffix.proofs.key.put_reversed.Given as goal

abbrev pub invariant-labels : goal.invariant-labels
invariant-labels l =
    IsWire l.wire
    × (length l.room ≡ length l.fn.room)
    × (l.start ≤ l.end)
    × (length l.wire ≤ l.start + 1)
    × (reversed_octets (labels_of l.wire) ++ drop l.start l.room ≡ reversed_octets (labels_of l.fn.wire) ++ drop l.end l.fn.room)

abbrev pub decreases-labels : goal.decreases-labels
decreases-labels l = length l.wire

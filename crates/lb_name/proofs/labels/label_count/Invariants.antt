use Rattle.std.proofs.Common.{◌≡◌, ◌+◌, ◌≤◌, length}
use Rattle.lb_name.specs.Name.{labels_of, IsWire}
use Rattle.lb_name.proofs.labels.label_count.Given as goal

abbrev pub invariant-labels : goal.invariant-labels
invariant-labels l =
    IsWire l.wire × (l.count + length (labels_of l.wire) ≡ length (labels_of l.fn.wire)) × (l.count + length l.wire ≤ 255)

abbrev pub decreases-labels : goal.decreases-labels
decreases-labels l = length l.wire

use Rattle.std.proofs.Common.{◌≡◌, length, slice_get}
use Rattle.lb_name.specs.Name.{labels_of, IsWire}
use Rattle.lb_name.proofs.labels.label_at.Given as goal

abbrev pub invariant-labels : goal.invariant-labels
invariant-labels l =
    IsWire l.wire × (slice_get (labels_of l.wire) l.left ≡ slice_get (labels_of l.fn.wire) l.fn.place)

abbrev pub decreases-labels : goal.decreases-labels
decreases-labels l = length l.wire

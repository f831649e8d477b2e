use Rattle.std.proofs.Common.{length}
use Rattle.lb_name.specs.Name.{labels_of, IsWire}
use Rattle.lb_name.proofs.LowerName.{Walks}
use Rattle.lb_name.proofs.labels.is_wire_under.Given as goal

abbrev pub invariant-labels : goal.invariant-labels
invariant-labels l = IsWire l.left × Walks (labels_of l.name) (labels_of l.left) (labels_of l.other)

abbrev pub decreases-labels : goal.decreases-labels
decreases-labels l = length l.left

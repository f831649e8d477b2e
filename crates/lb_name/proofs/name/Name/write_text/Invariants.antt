use Rattle.std.proofs.Common.{◌≡◌, ◌+◌, ◌≤◌, ◌++◌, length}
use Rattle.std.specs.List.{flat_map}
use Rattle.lb_name.specs.Name.{labels_of, IsWire}
use Rattle.lb_name.specs.Text.{has_name_bytes, label_text}
use Rattle.lb_name.proofs.name.Name.write_text.Given as goal

abbrev pub invariant-labels : goal.invariant-labels
invariant-labels l =
    IsWire l.wire
    × (has_name_bytes (labels_of l.wire) ≡ has_name_bytes l.self)
    × (l.text.bytes ++ flat_map label_text (labels_of l.wire) ≡ flat_map label_text l.self)
    × (length l.text.bytes + length l.wire ≤ 255)

abbrev pub decreases-labels : goal.decreases-labels
decreases-labels l = length l.wire

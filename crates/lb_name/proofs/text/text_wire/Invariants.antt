use Rattle.std.proofs.Common.{◌≡◌, ◌++◌, None}
use Rattle.lb_name.specs.Name.{wire_of}
use Rattle.lb_name.specs.Text.{cut_at_dots, pieces_left, first_fault}
use Rattle.lb_name.proofs.CutAtDots.{text_left}
use Rattle.lb_name.proofs.text.text_wire.Given as goal

abbrev pub invariant-labels : goal.invariant-labels
invariant-labels l =
    (first_fault (pieces_left l.left) ≡ None) × (l.wire.items ++ wire_of (pieces_left l.left) ≡ wire_of (cut_at_dots l.fn.text))

abbrev pub decreases-labels : goal.decreases-labels
decreases-labels l = text_left l.left

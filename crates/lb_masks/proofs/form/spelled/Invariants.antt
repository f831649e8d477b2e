use Rattle.std.proofs.Common.{◌≡◌, Some}
use Rattle.lb_masks.proofs.Pieces.{pieces_left}
use Rattle.lb_masks.specs.Form.{mark_of, joined, all_octets, spelled}
use Rattle.lb_masks.proofs.Cuts.{text_left}
use Rattle.lb_masks.proofs.form.spelled.Given as goal

abbrev pub invariant-pieces : goal.invariant-pieces
invariant-pieces l = joined (Some l.octets.items) (all_octets l.form (pieces_left (mark_of l.form) l.left)) ≡ spelled l.form l.fn.text

abbrev pub decreases-pieces : goal.decreases-pieces
decreases-pieces l = text_left l.left

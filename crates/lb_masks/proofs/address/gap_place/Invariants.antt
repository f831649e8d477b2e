use Rattle.std.proofs.Common.{◌≡◌, ◌-◌, drop}
use Rattle.lb_masks.specs.Text.{gap_place}
use Rattle.lb_masks.proofs.Gaps.{behind_by}
use Rattle.lb_masks.proofs.address.gap_place.Given as goal

abbrev pub invariant-loop-place : goal.invariant-loop-place
invariant-loop-place l = behind_by (l.place - 1) (gap_place (drop (l.place - 1) l.text)) ≡ gap_place l.text

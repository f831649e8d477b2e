use Rattle.std.proofs.Common.{◌≡◌, drop}
use Rattle.lb_masks.specs.Marks.{weighed, weights}
use Rattle.lb_masks.proofs.marks.weigh.Given as goal

abbrev pub invariant-loop-place : goal.invariant-loop-place
invariant-loop-place l = weighed l.sum (drop l.place l.octets) (drop l.place weights) ≡ weighed 0 l.octets weights

use Rattle.std.proofs.Common.{◌≡◌, ℕ, ◌<◌, get_or}
use Rattle.lb_masks.specs.Mask.{Prefix, Covers}
use Rattle.lb_masks.proofs.group.any_covers.Given as goal

abbrev pub invariant-loop-mask : goal.invariant-loop-mask
invariant-loop-mask l = (k : ℕ) → k < l.mask-index → (mask : Prefix) → get_or l.masks k mask ≡ mask → Covers mask l.addr → ⊥

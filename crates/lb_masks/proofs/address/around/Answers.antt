use Rattle.std.proofs.Common.{sym}
use Rattle.lb_masks.proofs.Gaps.{no_front}
use Rattle.lb_masks.proofs.address.around.Goals as goal

pub returns-in_err-before : goal.returns-in_err-before
returns-in_err-before c = rw c.from_residual.ensures (sym (no_front _ _ c.in_err-before.ensures.none))

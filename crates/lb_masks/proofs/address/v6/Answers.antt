use Rattle.std.proofs.Common.{◌∙◌}
use Rattle.lb_masks.proofs.Gaps.{v6_cut}
use Rattle.lb_masks.proofs.address.v6.Goals as goal

pub returns-in-Some : goal.returns-in-Some
returns-in-Some c = c.around.ensures ∙ v6_cut c.args.text.now _ _ _ c.in-Some.place c.in-Some.ensures.place c.split_at.ensures.front c.split_at.ensures.back c.split_at-in-Some.ensures.back

use Rattle.std.proofs.Common.{sym}
use Rattle.lb_masks.proofs.Cuts.{cut_none, cut_first}
use Rattle.lb_masks.proofs.form.first_piece.Goals as goal

pub returns-in-None-clause-pieces : goal.returns-in-None-clause-pieces
returns-in-None-clause-pieces c = cut_none _ _ (sym c.in-None.ensures)

pub returns-in-Some-clause-pieces : goal.returns-in-Some-clause-pieces
returns-in-Some-clause-pieces c =
    rw (c.split_at.ensures.front, c.split_at-in-Some.ensures.back, c.split_at.ensures.back) (cut_first _ _ _ (sym c.in-Some.ensures))

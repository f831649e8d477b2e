use Rattle.std.proofs.Common.{sym}
use Rattle.lb_name.proofs.CutAtDots.{cut_none, cut_first, dot_there}
use Rattle.lb_name.proofs.text.first_piece.Goals as goal

pub returns-in-None-clause-pieces : goal.returns-in-None-clause-pieces
returns-in-None-clause-pieces c = cut_none _ (sym c.in-None.ensures)

pub returns-in-Some-clause-pieces : goal.returns-in-Some-clause-pieces
returns-in-Some-clause-pieces c =
    rw (c.split_at.ensures.front, c.split_at-in-Some.ensures.back, c.split_at.ensures.back) (cut_first _ _ (sym c.in-Some.ensures))

pub returns-in-Some-clause-whole : goal.returns-in-Some-clause-whole
returns-in-Some-clause-whole c =
    rw (c.split_at.ensures.front, c.split_at-in-Some.ensures.back, c.split_at.ensures.back) (dot_there _ _ (sym c.in-Some.ensures))

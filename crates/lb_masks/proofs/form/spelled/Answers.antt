use Rattle.lb_masks.proofs.Joins.{pieces_open, pieces_more, pieces_end}
use Rattle.lb_masks.proofs.form.spelled.Goals as goal

pub returns-in_err-push_piece-clause-none : goal.returns-in_err-push_piece-clause-none
returns-in_err-push_piece-clause-none c =
    let opened = pieces_open c.args.form _ _ _ _ _ _ _ c.pieces.invariant c.in-Some.is c.mark.ensures c.first_piece.ensures.pieces in
    rw c.from_residual.ensures (pieces_end _ _ _ _ opened c.in_err-push_piece.ensures.none)

pub pieces-preserved : goal.pieces-preserved
pieces-preserved c =
    let opened = pieces_open c.args.form _ _ _ _ _ _ _ c.pieces.invariant c.in-Some.is c.mark.ensures c.first_piece.ensures.pieces in
    pieces_more _ _ _ _ _ opened c.in_ok-push_piece.ensures.pushed

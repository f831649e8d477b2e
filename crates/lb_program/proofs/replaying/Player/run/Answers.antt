use Rattle.std.proofs.lemmas.Result.{err_from_is_err_and}
use Rattle.lb_program.proofs.Readings.{fails_later}
use Rattle.lb_program.proofs.Replays.{output_fails, replays_out}
use Rattle.lb_program.proofs.replaying.Player.run.Goals as goal

pub returns-in_err-write_out : goal.returns-in_err-write_out
returns-in_err-write_out g c =
    let p = err_from_is_err_and c.from_residual.result c.from_residual.ensures.1 in
    let was = c.answer_lines-result.ensures in
    let stop = c.in_err-write_out.field-0.0 in
    let failed = output_fails stop c.in_err-write_out.ensures.cause in
    rw (p.1, p.2) (replays_out c.cached_answers_are_kept_replies.ensures _ _ _ _ _ _ _ _ was c.in_err-write_out.ensures.front (fails_later _ was.events c.answer_lines-result.result stop was.read failed.0) (λ well. absurd (failed.1 well)))

pub returns : goal.returns
returns g c =
    let was = c.answer_lines-result.ensures in
    replays_out c.cached_answers_are_kept_replies.ensures _ _ _ _ _ _ _ _ was c.in_ok-write_out.ensures.front was.read (λ well. c.in_ok-write_out.ensures.all)

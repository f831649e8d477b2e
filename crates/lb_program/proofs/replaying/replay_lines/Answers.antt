use Rattle.std.proofs.lemmas.Result.{err_from_is_err_and}
use Rattle.lb_program.specs.declared.faults.Stop.TheVariants.{NoMemory}
use Rattle.lb_program.proofs.Readings.{fails_first}
use Rattle.lb_program.proofs.Replays.{replays_none}
use Rattle.lb_program.proofs.replaying.replay_lines.Goals as goal

pub returns-in_err-player : goal.returns-in_err-player
returns-in_err-player g c =
    let p = err_from_is_err_and c.from_residual.result c.from_residual.ensures.1 in
    rw (p.1, p.2) (replays_none c.cached_answers_are_kept_replies.ensures _ _ _ (fails_first _ NoMemory tt))

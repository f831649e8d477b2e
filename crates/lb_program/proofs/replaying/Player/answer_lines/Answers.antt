use Rattle.std.proofs.Common.{◌-◌, ◌^◌, ◌<◌, ◌++◌, [], ◌∷◌, arith}
use Rattle.std.proofs.lemmas.Result.{err_from_is_err_and}
use Rattle.std.specs.Io.Buffered.{reader_remaining}
use Rattle.lb_program.specs.declared.faults.Stop.TheVariants.{NoMemory}
use Rattle.lb_program.proofs.Replays.{answered_none, answered_more, answered_out, answered_same}
use Rattle.lb_program.proofs.Readings.{all_read, event_read, fails_first, fails_read, none_read, nothing_read, stops_read}
use Rattle.lb_program.proofs.replaying.Player.answer_lines.Goals as goal

pub returns-in_err-lines : goal.returns-in_err-lines
returns-in_err-lines g c =
    let p = err_from_is_err_and c.from_residual.result c.from_residual.ensures.1 in
    rw (p.1, p.2) (record { events = []; end = c.args.self.now.balancer; answered = answered_none _ _ _ c.requires.begins.1 c.requires.begins.0; read = fails_first _ c.in_err-lines.field-0.0 c.in_err-lines.ensures.cause })

pub turns-init : goal.turns-init
turns-init g c = ([], answered_none _ _ _ c.requires.begins.1 c.requires.begins.0, none_read _ _ _ _ c.in_ok-lines.ensures.input c.in_ok-lines.ensures.ended.0 c.in_ok-lines.ensures.line)

pub returns-in_err-turn : goal.returns-in_err-turn
returns-in_err-turn g c =
    let p = err_from_is_err_and c.from_residual-in_err-turn.result c.from_residual-in_err-turn.ensures.1 in
    let so = c.turns.invariant in
    let left = stops_read _ _ (reader_remaining g.R.Read.remaining c.turn.new.lines.input) _ c.turn.new.lines.ended c.turns.lines.line c.turn.new.lines.line so.0 c.in_err-turn.field-0.0 so.2 c.in_err-turn.ensures.turns in
    rw (p.1, p.2) (record { events = so.0; end = c.turns.self.balancer; answered = answered_out _ _ _ _ _ _ _ so.1 c.in_err-turn.ensures.front; read = left })

pub turns-smaller-in-Nothing : goal.turns-smaller-in-Nothing
turns-smaller-in-Nothing g c =
    let next = c.in_ok-turn.ensures.counted in
    let smaller : 2 ^ 64 - c.turn.new.lines.turns < 2 ^ 64 - c.turns.lines.turns = omega (arith, next.0, next.1) in
    smaller

pub turns-preserved-in-Nothing : goal.turns-preserved-in-Nothing
turns-preserved-in-Nothing g c =
    let so = c.turns.invariant in
    let held = answered_out _ _ _ _ _ _ _ so.1 c.in_ok-turn.ensures.front in
    let left = nothing_read _ _ _ _ c.turn.new.lines.ended c.turns.lines.line c.turn.new.lines.line so.0 so.2 (rw c.in-Nothing.is at c.in_ok-turn.ensures.turns) in
    rw c.in_ok-turn.ensures.same (so.0, held, left)

pub turns-smaller : goal.turns-smaller
turns-smaller g c =
    let next = c.in_ok-turn.ensures.counted in
    let smaller : 2 ^ 64 - c.turn.new.lines.turns < 2 ^ 64 - c.turns.lines.turns = omega (arith, next.0, next.1) in
    smaller

pub turns-preserved : goal.turns-preserved
turns-preserved g c =
    let so = c.turns.invariant in
    let held = answered_out _ _ _ _ _ _ _ so.1 c.in_ok-turn.ensures.front in
    let more = rw c.in_ok-turn.ensures.same at c.in_ok-answer-in-Event.ensures.answered in
    let left = event_read _ _ _ _ c.turn.new.lines.ended c.turns.lines.line c.turn.new.lines.line so.0 c.in-Event.event so.2 (rw c.in-Event.is at c.in_ok-turn.ensures.turns) in
    (so.0 ++ c.in-Event.event ∷ [], answered_more _ _ _ _ _ _ _ _ more.0 held more.1 more.2, left)

pub returns-in_err-answer-in-Event : goal.returns-in_err-answer-in-Event
returns-in_err-answer-in-Event g c =
    let p = err_from_is_err_and c.from_residual-in_err-answer-in-Event.result c.from_residual-in_err-answer-in-Event.ensures.1 in
    let so = c.turns.invariant in
    let held = answered_out _ _ _ _ _ _ _ so.1 c.in_ok-turn.ensures.front in
    rw (p.1, p.2) (record { events = so.0; end = c.turns.self.balancer; answered = answered_same _ _ _ _ _ _ held c.in_err-answer-in-Event.ensures.same; read = fails_read _ _ _ _ _ NoMemory so.2 tt })

pub returns-in-End : goal.returns-in-End
returns-in-End g c =
    let so = c.turns.invariant in
    let held = answered_out _ _ _ _ _ _ _ so.1 c.in_ok-turn.ensures.front in
    let all = all_read _ _ (reader_remaining g.R.Read.remaining c.turn.new.lines.input) _ c.turn.new.lines.ended c.turns.lines.line c.turn.new.lines.line so.0 so.2 (rw c.in-End.is at c.in_ok-turn.ensures.turns) in
    record { events = so.0; end = c.turns.self.balancer; answered = held; read = all }
